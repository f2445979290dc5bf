-- The entries of a list are there.
use Rattle.std.specs.Prelude.{ℕ, ◌<◌, List}
use Rattle.std.specs.Coded.{le_prop, Π_prop, →_prop}
use Rattle.survey.specs.declared.stands.Stand.{Stand}
use Rattle.survey.specs.declared.stands.Stand.TheVariants.{Lent, Blocks}
use Rattle.entries.specs.Entries.{EntryWithin}

-- each of the first n entries is there
abbrev pub EachWithin : ℕ → List ℕ → Stand → Type 0
EachWithin n l w = (k : ℕ) → k < n → EntryWithin l w k

-- That can be so in one way.
within_prop : (l : List ℕ) (w : Stand) (k : ℕ) → IsProp (EntryWithin l w k)
within_prop l Lent k = le_prop
within_prop l (Blocks first) k = λ a b i. record { fits = le_prop a.fits b.fits i }

pub each_within_prop : (n : ℕ) (l : List ℕ) (w : Stand) → IsProp (EachWithin n l w)
each_within_prop n l w = Π_prop (λ k. →_prop (within_prop l w k))
