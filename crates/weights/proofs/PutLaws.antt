-- How a list is filled from the front, place by place.
use Prim.Native.Nat.{ℕ, ◌+◌, ◌*◌, ◌<◌, ◌≤◌}
use Rattle.std.proofs.Common.{arith}
use Rattle.std.proofs.lemmas.Grind.{common_steps}
use mathlib.Core.Path.{◌≡◌, refl, sym, ◌∙◌}
use mathlib.Core.List.{List, []}
use lib.ListN.{length, get_or, set, length-set}
use lib.Seq.{ext_get_or}
use Rattle.survey.specs.Limits.{entry_bytes}
use Rattle.survey.specs.Words.{survey_at, survey_of, group_at, lent}
use Rattle.survey.specs.Sets.{Set, total, D, L}
use Rattle.survey.specs.Rounds.{weights}
use Rattle.survey.proofs.GivenSurvey.{given_group}
use Rattle.survey.specs.Sound.{Sound}
use Rattle.counts.specs.declared.Group.{Group}
use Rattle.counts.specs.declared.Weight.{Weight}
use Rattle.counts.specs.Counts.{group_of, GroupIs, WeightIs}
use Rattle.counts.proofs.CountLaws.{group_is}
use Rattle.weights.specs.Marked.{groups_of}
use Rattle.weights.specs.Put.{PutFirst, Puttable, WeightsPut}
use Rattle.weights.proofs.MarkedLaws.{sound_groups, dead_within, live_within}

module _ {f : ℕ → ℕ} {l : List ℕ} where
  pub put_none : PutFirst 0 f l l
  put_none = record { long = refl; first = λ g b. absurd (omega arith); rest = λ g b. refl }

  pub put_more : {n : ℕ} {l' : List ℕ} {v : ℕ} → n < length l → v ≡ f n → PutFirst n f l l' → PutFirst (n + 1) f l (set l' n v)
  put_more {n} {l'} {v} h e p =
      record {
        long = simp length-set p.long;
        first = λ g b. grind (arith, common_steps, p.long, p.first g, e);
        rest = λ g b. grind (arith, common_steps, p.rest g);
      }

  -- Two lists that are allowed are equal.
  pub put_first_one : {n : ℕ} {a b : List ℕ} → PutFirst n f l a → PutFirst n f l b → a ≡ b
  put_first_one {n} {a} {b} p q = ext_get_or 0 a b (p.long ∙ sym q.long) (λ g h. grind (arith, p.first g, q.first g, p.rest g, q.rest g))

pub put_weights_one :
    {n d l : ℕ} {groups plus minus a a' b b' : List ℕ} → WeightsPut n groups d l plus minus a b → WeightsPut n groups d l plus minus a' b' → (a ≡ a') × (b ≡ b')
put_weights_one p q = (put_first_one p.pluses q.pluses, put_first_one p.minuses q.minuses)

-- a group that was read, and its weight: it is the weight of that group of the survey
pub weight_read :
    {n g d l : ℕ} (groups : List ℕ) {r : Group} {w : Weight} → g < n → GroupIs r (group_at groups lent g) → WeightIs w (group_of r) d l
    → WeightIs w ((groups_of n groups).group g) d l
weight_read {n} {g} groups h i is = rw (group_is i ∙ sym (given_group n 0 groups lent [] lent g h)) at is

-- Put with D and L of a set, these are the weights of Specification 6.1, in every survey that has these groups.
module _ {n : ℕ} {groups : List ℕ} (e : ℕ) (links : List ℕ) (S : Set) {plus minus plus' minus' : List ℕ}
    (p : WeightsPut n groups (D (groups_of n groups) S) (L (groups_of n groups) S) plus minus plus' minus') where
  pub plus_put : (g : ℕ) → g < n → get_or plus' g 0 ≡ (weights (survey_of n e groups links) S).plus g
  unfolding survey_at total
  plus_put g h = p.pluses.first g h

  pub minus_put : (g : ℕ) → g < n → get_or minus' g 0 ≡ (weights (survey_of n e groups links) S).minus g
  unfolding survey_at total
  minus_put g h = p.minuses.first g h

-- The sums of a set of an admitted survey can be put.
pub sound_puttable :
    (n e : ℕ) (groups links : List ℕ) → Sound (survey_of n e groups links) → entry_bytes * n ≤ length groups → (S : Set) {d l : ℕ} → d ≡ D (groups_of n groups) S
    → l ≡ L (groups_of n groups) S → {plus minus : List ℕ} → n ≤ length plus → n ≤ length minus → Puttable n groups d l plus minus
sound_puttable n e groups links x long S is-d is-l p m =
    record {
      some = sound_groups n e groups links x long;
      dead = rw is-d (dead_within n e groups links x S);
      live = rw is-l (live_within n e groups links x S);
      plus_long = p;
      minus_long = m;
    }
