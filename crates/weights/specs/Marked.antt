-- Groups of a lent list, and marks that say which of them are in a set.
use Rattle.std.specs.Prelude.{ℕ, ◌*◌, ◌≤◌, ◌<◌, List, [], length}
use Rattle.survey.specs.Limits.{group_limit, entry_bytes}
use Rattle.survey.specs.Sets.{Set, total}
use Rattle.survey.specs.Survey.{Group, Survey}
use Rattle.survey.specs.Words.{group_at, lent, survey_of}
use Rattle.counts.specs.Counts.{CountsFit}

-- The survey that has these groups and no link. D, L and weights are said of groups alone, so they are the same in every survey that has them.
abbrev pub groups_of : ℕ → List ℕ → Survey
groups_of n groups = survey_of n 0 groups []

-- What f says of each group of a set, added up. At the dead count this is D and at the cost it is L: `dead_total` and `cost_total` in proofs/MarkedLaws.
abbrev pub total_of : (Group → ℕ) → Survey → Set → ℕ
total_of f s = total s (λ g. f (s.group g))

-- n groups of a survey: their entries are there, and no count is above its limit (Specification 3.1)
pub record SomeGroups (n : ℕ) (groups : List ℕ) : Type 0 where
  pub few : n ≤ group_limit
  pub long : entry_bytes * n ≤ length groups
  pub counts : (g : ℕ) → g < n → CountsFit (group_at groups lent g)

-- the same, each with its mark
pub record MarkedGroups (n : ℕ) (groups marks : List ℕ) : Type 0 where
  pub some : SomeGroups n groups
  pub marks_long : n ≤ length marks
