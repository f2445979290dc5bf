-- From all groups on: the current sets shrink round by round, the last round's set is its current set, and its amounts are accepted.
use Prim.Native.Nat.{ℕ, suc, ◌+◌, ◌*◌, ◌≤◌, ◌<◌}
use native.Mathlib.Nat.{mul_comm, zero-add}
use native.Mathlib.Omega.{arith}
use mathlib.Core.Path.{◌≡◌, sym, subst}
use Rattle.survey.specs.Survey.{Survey}
use Rattle.survey.specs.Sets.{Set, In, Eligible, Contains, Same, all_groups, outside, dead_of, cost_of, D, L}
use Rattle.survey.specs.Rounds.{Weights, weights, WeighsZero, Heaviest, Rounds, last, more, RoundsOf}
use Rattle.survey.specs.Balance.{Amounts, credit, debit, LargestSettled, Accepted, excess}
use Rattle.survey.specs.Sound.{Inside}
use Rattle.survey.proofs.Totals.{by_test, member_le}
use Rattle.survey.proofs.SameSets.{contains_both, eligible_same, same_sym, total_same, weights_same, rounds_start_same}
use Rattle.survey.proofs.Eligible.{eligible_all}
use Rattle.survey.proofs.BalanceRule.{weighs_plus, weighs_minus}
use Rattle.survey.specs.Draining.{Drains}
use Rattle.survey.proofs.Draining.{drained_settled, drained_heaviest, weighs, outside_in}
use Rattle.survey.proofs.Rounds.{more_dead, nested, last_contains, last_pick, size, same_size}

-- The sets that are the current one in some round: all groups, and each heaviest set that weighs more than 0.
pub data Current (s : Survey) : Set → Type 0 where
  begin : {C : Set} → Same s all_groups C → Current s C
  next : {C S : Set} → Current s C → Heaviest s (weights s C) S → (WeighsZero s (weights s C) S → ⊥) → Current s S

pub current_eligible : {s : Survey} {C : Set} → Inside s → Current s C → Eligible s C
current_eligible i (begin e) = eligible_same i e eligible_all
current_eligible i (next c h d) = h.greatest.eligible

pub current_dead : {s : Survey} {C : Set} → 0 < D s all_groups → Current s C → 0 < D s C
current_dead {s} p (begin e) = rw (total_same e (dead_of s)) at p
current_dead {s} p (next {C = C} c h d) = more_dead s C h d

-- Each round's set lies inside the current one.
pub round_within : {s : Survey} {C S : Set} → Current s C → Heaviest s (weights s C) S → Contains s C S
round_within (begin e) h = record { has = λ g l m. sym (e.at g l) }
round_within {s} (next {C = B} c h d) k = nested s B h d k

-- a set weighs 0 by its own weights
pub own_zero : (s : Survey) {C S : Set} → Same s C S → WeighsZero s (weights s C) S
own_zero s {C} {S} e =
    omega (arith, weighs_plus s C S, weighs_minus s C S, product)
  where
    product : D s S * L s C ≡ L s S * D s C
    product = rw (total_same e (dead_of s), total_same e (cost_of s)) (mul_comm (D s S) (L s S))

-- Strictly: in a further round the set has fewer groups than the current one.
pub round_fewer : {s : Survey} {C S : Set} → Current s C → Heaviest s (weights s C) S → (WeighsZero s (weights s C) S → ⊥) → size s S < size s C
round_fewer {s} {C} {S} c h d = at (λ le. d (own_zero s (same_size s (round_within c h) le)))
  where
    at : (size s C ≤ size s S → ⊥) → size s S < size s C
    at n = omega arith

-- The last round's set is its current set.
pub last_same : {s : Survey} {C S : Set} → Inside s → Current s C → Heaviest s (weights s C) S → WeighsZero s (weights s C) S → Same s C S
last_same {s} {C} i c h z = contains_both (round_within c h) (last_contains s C h (current_eligible i c) z)

-- The last round's amounts, made for the current set's weights, are accepted for the set itself.
module _ {s : Survey} (i : Inside s) {C T : Set} {a : Amounts} (p : 0 < D s all_groups) (c : Current s C) (d : Drains s (weights s C) a T)
    (dry : (g : ℕ) → g < s.n → In T g → credit s (weights s C) a g ≤ debit s (weights s C) a g) (z : WeighsZero s (weights s C) (outside T)) where
  none_above : (g : ℕ) → g < s.n → credit s (weights s C) a g ≤ debit s (weights s C) a g
  none_above g l = by_test (T g) (λ y. dry g l y) (λ n. at (outside_in n))
    where
      at : In (outside T) g → credit s (weights s C) a g ≤ debit s (weights s C) a g
      at m =
          omega (arith, weighs s a (weights s C) i d dry, member_le s (excess s (weights s C) a) (outside T) g l m)

  pub last_accepted : Accepted s (outside T) a
  last_accepted =
      record {
        candidate = (last_pick s C heaviest (current_eligible i c) (current_dead p c) z).best.candidate;
        no_balance_above = λ g l b. at g (subst (λ (w : Weights). credit s w a g ≤ debit s w a g) own (none_above g l)) b;
        largest = subst (λ (w : Weights). LargestSettled s w a (outside T)) own (drained_settled s a (weights s C) d none_above);
      }
    where
      heaviest : Heaviest s (weights s C) (outside T)
      heaviest = drained_heaviest s a (weights s C) i d dry

      own : weights s C ≡ weights s (outside T)
      own = weights_same (last_same i c heaviest z)

      at : (g : ℕ) → credit s (weights s (outside T)) a g ≤ debit s (weights s (outside T)) a g → debit s (weights s (outside T)) a g < credit s (weights s (outside T)) a g → ⊥
      at g h b = omega arith

-- The rounds so far: C is the current set after r of them, and what follows from C on is counted on from r.
pub record Reached (s : Survey) (C : Set) (r : ℕ) : Type 0 where
  pub current : Current s C
  pub counted : (k : ℕ) (P : Set) → Rounds s C k P → RoundsOf s (r + k) P

pub reached_none : {s : Survey} {C : Set} → Same s all_groups C → Reached s C 0
reached_none {s} e = record { current = begin e; counted = λ k P x. subst (λ (m : ℕ). RoundsOf s m P) (sym (zero-add k)) (rounds_start_same (same_sym e) x) }

pub reached_more : {s : Survey} {C S : Set} {r : ℕ} → Reached s C r → Heaviest s (weights s C) S → (WeighsZero s (weights s C) S → ⊥) → Reached s S (r + 1)
reached_more {s} {C} {S} {r} x h d =
    record {
      current = next x.current h d;
      counted = λ k P y. let e : r + suc k ≡ r + 1 + k = omega arith in subst (λ (m : ℕ). RoundsOf s m P) e (x.counted (suc k) P (more h d y));
    }

pub reached_last : {s : Survey} {C S : Set} {r : ℕ} → Reached s C r → Heaviest s (weights s C) S → WeighsZero s (weights s C) S → RoundsOf s (r + 1) S
reached_last {s} {C} {S} {r} x h z = x.counted 1 S (last h z)
