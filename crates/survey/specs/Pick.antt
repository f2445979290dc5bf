-- Specification 5, "Pick": candidates and the pick.
use Rattle.std.specs.Prelude.{◌*◌, ◌<◌}
use Rattle.survey.specs.Survey.{Survey}
use Rattle.survey.specs.Sets.{Set, Eligible, Contains, D, L}

-- 5.1: a candidate is an eligible set in which something is dead.
pub record Candidate (s : Survey) (S : Set) : Type 0 where
  pub eligible : Eligible s S
  pub dead : 0 < D s S

-- 5.2: A is better than B if A's live objects times B's dead ones are fewer than B's live objects times A's dead ones.
abbrev pub BetterSet : Survey → Set → Set → Type 0
BetterSet s A B = L s A * D s B < L s B * D s A

-- 5.3: a candidate is best if there is no better one.
pub record Best (s : Survey) (S : Set) : Type 0 where
  pub candidate : Candidate s S
  pub unbeaten : (B : Set) → Candidate s B → BetterSet s B S → ⊥

-- 5.4: the pick is a best candidate that contains all the best ones.
pub record IsPick (s : Survey) (S : Set) : Type 0 where
  pub best : Best s S
  pub contains : (B : Set) → Best s B → Contains s S B
