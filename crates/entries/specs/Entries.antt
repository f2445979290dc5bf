-- Entries of a list, as the code reads and writes them.
use Rattle.std.specs.Prelude.{ℕ, ◌+◌, ◌*◌, ◌≤◌, ◌≡◌, List, length}
use Rattle.survey.specs.declared.stands.Stand.{Stand}
use Rattle.survey.specs.declared.stands.Stand.TheVariants.{Lent, Blocks}
use Rattle.survey.specs.Limits.{entry_bytes}
use Rattle.survey.specs.Survey as survey
use Rattle.survey.specs.Words.{word, block_of_pair, stands_at}
use Rattle.views.specs.Views.{Within}
use Rattle.entries.specs.declared.Pair.{Pair}
use Rattle.entries.specs.declared.Link.{Link}
use Rattle.words.specs.Words.{with_long_word}

-- entry k is there: of a lent list its 8 bytes, of a file the block that it stands in
abbrev pub EntryWithin : List ℕ → Stand → ℕ → Type 0
EntryWithin l Lent k = entry_bytes * k + entry_bytes ≤ length l
EntryWithin l (Blocks first) k = Within l (block_of_pair first k)

-- a value of the code has the two words of entry k
pub record PairIs (r : Pair) (l : List ℕ) (w : Stand) (k : ℕ) : Type 0 where
  pub first : r.first ≡ word l (stands_at w k)
  pub second : r.second ≡ word l (stands_at w k + 4)

-- a value of the code stands for this link
pub record LinkIs (r : Link) (k : survey.Link) : Type 0 where
  pub from : r.from ≡ k.from
  pub to : r.to ≡ k.to

-- a lent list of amounts in which the one of link k is x
abbrev pub with_amount : List ℕ → ℕ → ℕ → List ℕ
with_amount l k x = with_long_word l (entry_bytes * k) x
