-- What admission asks of the lists of a survey.
use Rattle.std.specs.Prelude.{ℕ, ◌≤◌, List}
use Rattle.survey.specs.declared.stands.Stand.{Stand}
use Rattle.cycles.specs.Within.{EachWithin}

-- The k entries of a list are there where k is in range. Where it isn't, the list is not looked at.
pub record EntriesFit (k limit : ℕ) (l : List ℕ) (w : Stand) : Type 0 where
  pub fit : k ≤ limit → EachWithin k l w
