-- Not of the specification, but what an admitted survey comes to, by name: contracts cite it, so that nobody counts the rows of the table.
use Rattle.std.specs.Prelude.{ℕ, ◌-◌, ◌<◌, ◌≤◌}
use Rattle.survey.specs.Limits.{group_limit, link_limit, count_limit}
use Rattle.survey.specs.Survey.{Survey, Ascends, Cycle}
use Rattle.survey.specs.Sets.{all_groups, D}

-- Both ends of each link are groups of the survey.
pub record Inside (s : Survey) : Type 0 where
  pub from : (k : ℕ) → k < s.e → (s.link k).from < s.n
  pub to : (k : ℕ) → k < s.e → (s.link k).to < s.n

-- An admitted survey has all of this (proofs/Admitted: `admitted_sound`).
pub record Sound (s : Survey) : Type 0 where
  pub some_group : 0 < s.n
  pub groups : s.n ≤ group_limit
  pub links : s.e ≤ link_limit
  pub dead : (g : ℕ) → g < s.n → (s.group g).dead ≤ count_limit
  pub live : (g : ℕ) → g < s.n → (s.group g).live ≤ count_limit
  pub inside : Inside s
  pub ascends : (k : ℕ) → 0 < k → k < s.e → Ascends (s.link (k - 1)) (s.link k)
  pub without_cycle : Cycle s → ⊥
  pub some_dead : 0 < D s all_groups
