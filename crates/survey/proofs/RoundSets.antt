-- A round's set, told by what drains outside of it: whether it weighs 0, and that the last one is accepted.
use Prim.Native.Nat.{ℕ, ◌+◌, ◌≤◌, ◌<◌}
use native.Mathlib.Omega.{arith}
use mathlib.Core.Path.{◌≡◌, refl, sym, subst}
use mathlib.Core.Bool.{Bool, true, false, not}
use Rattle.survey.specs.Survey.{Survey}
use Rattle.survey.specs.Sets.{Set, In, all_groups, outside, total, D}
use Rattle.survey.specs.Rounds.{Weights, weights, total_plus, total_minus, WeighsZero}
use Rattle.survey.specs.Balance.{Amounts, credit, debit, Accepted, excess}
use Rattle.survey.specs.Sound.{Inside}
use Rattle.survey.proofs.Totals.{by_test, total_zero, member_le}
use Rattle.survey.specs.Draining.{Drains}
use Rattle.survey.proofs.Draining.{weighs, outside_in}
use Rattle.survey.proofs.LastRound.{Current, last_accepted}

-- outside of the outside
pub outside_twice : (S : Set) → outside (outside S) ≡ S
outside_twice S = λ i g. at (S g) i
  where
    at : (b : Bool) → not (not b) ≡ b
    at true = refl
    at false = refl

module _ {s : Survey} (i : Inside s) (w : Weights) (S : Set) {a : Amounts} (d : Drains s w a (outside S))
    (dry : (g : ℕ) → g < s.n → In (outside S) g → credit s w a g ≤ debit s w a g) where
  weighs_excess : total_plus s w S ≡ total_minus s w S + total s (excess s w a) S
  weighs_excess =
      subst (λ (X : Set). total_plus s w X ≡ total_minus s w X + total s (excess s w a) X) (outside_twice S) (weighs s a w i d dry)

  -- where no balance is above 0 it weighs 0
  pub none_zero : ((g : ℕ) → g < s.n → excess s w a g ≡ 0) → WeighsZero s w S
  none_zero none = omega (arith, weighs_excess, total_zero s (excess s w a) S (λ g l m. none g l))

  -- and where one is above 0 it weighs more
  pub some_more : (g : ℕ) → g < s.n → 0 < excess s w a g → WeighsZero s w S → ⊥
  some_more g l p z = by_test (S g) (λ y. omega (arith, weighs_excess, member_le s (excess s w a) S g l y)) (λ n. none (dry g l (outside_in n)))
    where
      none : credit s w a g ≤ debit s w a g → ⊥
      none h = omega arith

-- The last round's set is accepted with its amounts.
pub round_accepted :
    {s : Survey} → Inside s → {C : Set} (S : Set) {a : Amounts} → 0 < D s all_groups → Current s C → Drains s (weights s C) a (outside S)
    → ((g : ℕ) → g < s.n → In (outside S) g → credit s (weights s C) a g ≤ debit s (weights s C) a g) → WeighsZero s (weights s C) S → Accepted s S a
round_accepted {s} i {C} S {a} p c d dry z =
    subst (λ (X : Set). Accepted s X a) (outside_twice S)
    (last_accepted i p c d dry (subst (λ (X : Set). WeighsZero s (weights s C) X) (sym (outside_twice S)) z))
