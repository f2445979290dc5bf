-- Laws of counts: the contracts on groups and weights leave one answer.
-- Assumes nothing.
use Prim.Native.Nat.{ℕ}
use mathlib.Core.Path.{◌≡◌, ◌∙◌, sym}
use Rattle.survey.specs.Survey as survey
use Rattle.counts.specs.declared.Group.{Group}
use Rattle.counts.specs.declared.Weight.{Weight}
use Rattle.counts.specs.Counts.{group_of, GroupIs, CountsFit, WeightIs}

-- a value that stands for a group: the group is what the value stands for
pub group_is : {r : Group} {g : survey.Group} → GroupIs r g → group_of r ≡ g
group_is a = λ i. record { dead = a.dead i; live = a.live i }

-- .. and it is as small
pub counts_read : {r : Group} {g : survey.Group} → GroupIs r g → CountsFit g → CountsFit (group_of r)
counts_read a fit = rw (group_is a) fit

pub group_one : {r r' : Group} {g : survey.Group} → GroupIs r g → GroupIs r' g → r ≡ r'
group_one a b =
    λ i. record { dead = record { 0 = (a.dead ∙ sym b.dead) i }; live = record { 0 = (a.live ∙ sym b.live) i } }

pub weight_one : {r r' : Weight} {g : survey.Group} {d l : ℕ} → WeightIs r g d l → WeightIs r' g d l → r ≡ r'
weight_one a b = λ i. record { plus = (a.plus ∙ sym b.plus) i; minus = (a.minus ∙ sym b.minus) i }
