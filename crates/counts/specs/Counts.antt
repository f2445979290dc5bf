-- Groups and weights in code, held to those of crates/survey.
use Rattle.std.specs.Prelude.{ℕ, ◌*◌, ◌≤◌, ◌≡◌}
use Rattle.survey.specs.Limits.{count_limit}
use Rattle.survey.specs.Survey as survey
use Rattle.survey.specs.Sets.{cost}
use Rattle.counts.specs.declared.Group.{Group}
use Rattle.counts.specs.declared.Weight.{Weight}

-- the group that a value of the code stands for
abbrev pub group_of : Group → survey.Group
group_of g = record { dead = g.dead.0; live = g.live.0 }

-- a value of the code stands for this group
pub record GroupIs (r : Group) (g : survey.Group) : Type 0 where
  pub dead : r.dead.0 ≡ g.dead
  pub live : r.live.0 ≡ g.live

-- Specification 3.1: neither count is above its limit
pub record CountsFit (g : survey.Group) : Type 0 where
  pub dead : g.dead ≤ count_limit
  pub live : g.live ≤ count_limit

-- Specification 6.1: the two halves of a weight
pub record WeightIs (r : Weight) (g : survey.Group) (d l : ℕ) : Type 0 where
  pub plus : r.plus ≡ g.dead * l
  pub minus : r.minus ≡ cost g * d
