-- Pairs copied from a file into a lent list.
use Rattle.std.specs.Prelude.{ℕ, ◌+◌, ◌*◌, ◌≤◌, ◌<◌, ◌≡◌, ◌⊎◌, List, length, get_or}
use Rattle.survey.specs.Limits.{entry_bytes}
use Rattle.survey.specs.SurveyFile.{in_blocks}
use Rattle.entries.specs.declared.Pair.{Pair}
use Rattle.entries.specs.Entries.{EntryWithin}

-- a pair as one long word, its first word the low one
abbrev pub both_words : Pair → ℕ
both_words p = p.first + 4_294_967_296 * p.second

-- The list after: the entry at place i is, byte for byte, the one at place j of a file, and the rest of it is as before.
pub record Copied (before after : List ℕ) (i : ℕ) (f : List ℕ) (j : ℕ) : Type 0 where
  pub long : length after ≡ length before
  pub inside : (k : ℕ) → k < entry_bytes → get_or after (i + k) 0 ≡ get_or f (j + k) 0
  pub outside : (m : ℕ) → (m < i) ⊎ (i + entry_bytes ≤ m) → get_or after m 0 ≡ get_or before m 0

-- The list has room for so many pairs, and the file has the blocks that they stand in.
pub record Fillable (list : List ℕ) (count : ℕ) (f : List ℕ) (start : ℕ) : Type 0 where
  pub room : entry_bytes * count ≤ length list
  pub within : (k : ℕ) → k < count → EntryWithin f (in_blocks start) k
