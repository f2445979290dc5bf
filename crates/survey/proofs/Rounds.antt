-- Rounds: each round's set lies in the one before, the last one is the pick, and its amounts are accepted.
use Prim.Native.Nat.{ℕ, zero, suc, ◌+◌, ◌-◌, ◌*◌, ◌≤◌, ◌<◌}
use native.Mathlib.Nat.{zero-mul, mul_comm, mul-le-mul_right, mul-le-mul_left, le_of_mul-le-mul_right}
use native.Mathlib.Omega.{arith}
use mathlib.Core.Path.{◌≡◌, refl}
use mathlib.Core.Bool.{Bool, true, false}
use Rattle.survey.specs.Survey.{Survey}
use Rattle.survey.specs.Sets.{Set, In, Out, Eligible, Contains, Same, no_group, union, meet, total, only, dead_of, cost_of, D, L}
use Rattle.survey.specs.Pick.{Candidate, BetterSet, IsPick}
use Rattle.survey.specs.Rounds.{weights, WeighsAtMost, WeighsZero, Heaviest, Rounds, last, more}
use Rattle.survey.proofs.SumOrder.{sum_lt}
use Rattle.survey.proofs.Totals.{by_test, not_both, total_zero, total_within, total_union}
use Rattle.survey.proofs.SameSets.{contains_both}
use Rattle.survey.proofs.Eligible.{eligible_none, eligible_union, eligible_meet, union_left, union_right, contains_trans}
use Rattle.survey.proofs.BalanceRule.{weighs_plus, weighs_minus}

-- Cross products may be chained: what x/y is to b/a, and b/a to d/c, x/y is to d/c.
pub cross_chain : (x y a b c d : ℕ) → y * a ≤ x * b → b * c ≤ d * a → 0 < a → y * c ≤ x * d
cross_chain x y a b c d h k p =
    le_of_mul-le-mul_right {k = a} (omega (arith, mul-le-mul_right c h, mul-le-mul_left x k)) p

module _ (s : Survey) (C : Set) where
  -- B weighs at most what S weighs, in sums
  pub at_most : (B S : Set) → WeighsAtMost s (weights s C) B S → D s B * L s C + L s S * D s C ≤ D s S * L s C + L s B * D s C
  at_most B S h = omega (arith, weighs_plus s C B, weighs_plus s C S, weighs_minus s C B, weighs_minus s C S)

  pub to_at_most : (B S : Set) → D s B * L s C + L s S * D s C ≤ D s S * L s C + L s B * D s C → WeighsAtMost s (weights s C) B S
  to_at_most B S h = omega (arith, weighs_plus s C B, weighs_plus s C S, weighs_minus s C B, weighs_minus s C S)

  module _ {S : Set} (h : Heaviest s (weights s C) S) where
    -- the empty set weighs 0, so the heaviest weighs at least that
    pub weighs_not_below : L s S * D s C ≤ D s S * L s C
    weighs_not_below =
        omega (
          arith,
          h.greatest.most no_group eligible_none,
          weighs_plus s C S,
          weighs_minus s C S,
          total_zero s (weights s C).plus no_group (λ g l m. absurd (not_both m refl)),
          total_zero s (weights s C).minus no_group (λ g l m. absurd (not_both m refl)),
        )

    pub weighs_zero : WeighsZero s (weights s C) S → D s S * L s C ≡ L s S * D s C
    weighs_zero z = omega (arith, weighs_plus s C S, weighs_minus s C S)

    pub weighs_more : (WeighsZero s (weights s C) S → ⊥) → L s S * D s C < D s S * L s C
    weighs_more d = omega (arith, weighs_plus s C S, weighs_minus s C S, weighs_not_below)

    -- in a further round: a set that weighs more than 0 has something dead
    pub more_dead : (WeighsZero s (weights s C) S → ⊥) → 0 < D s S
    more_dead d = at (D s S) (weighs_more d)
      where
        at : (x : ℕ) → L s S * D s C < x * L s C → 0 < x
        at zero k = absurd (omega (arith, zero-mul (L s C)))
        at (suc x) k = omega arith

    -- an eligible set that weighs at least as much lies in the heaviest
    pub heavy_within : {B : Set} → Eligible s B → WeighsAtMost s (weights s C) S B → Contains s S B
    heavy_within {B} b k = h.largest B (record { eligible = b; most = λ A a. at A (h.greatest.most A a) })
      where
        at : (A : Set) → WeighsAtMost s (weights s C) A S → WeighsAtMost s (weights s C) A B
        at A m = omega arith

    -- The current set weighs 0 by its own weights, so where the heaviest does too it contains the current set.
    pub last_contains : Eligible s C → WeighsZero s (weights s C) S → Contains s S C
    last_contains e z = heavy_within e (to_at_most S C (omega (arith, weighs_zero z, mul_comm (D s C) (L s C))))

    -- Where the heaviest weighs 0 it is the pick.
    pub last_pick : Eligible s C → 0 < D s C → WeighsZero s (weights s C) S → IsPick s S
    last_pick e p z =
        record {
          best = record { candidate = record { eligible = h.greatest.eligible; dead = dead }; unbeaten = λ B b k. unbeaten B b k };
          contains = λ B b. heavy_within b.candidate.eligible (to_at_most S B (omega (
            arith,
            weighs_zero z,
            as_good B
                (b.unbeaten S (record { eligible = h.greatest.eligible; dead = dead })),
          )));
        }
      where
        dead : 0 < D s S
        dead = omega (arith, total_within s (dead_of s) C S (last_contains e z))

        unbeaten : (B : Set) → Candidate s B → BetterSet s B S → ⊥
        unbeaten B b k =
            omega (
              arith,
              cross_chain (D s S) (L s S) (D s C) (L s C) (D s B) (L s B)
                  (omega (arith, weighs_zero z))
                  (omega (arith, at_most B S (h.greatest.most B b.eligible), weighs_zero z, mul_comm (L s C) (D s B)))
                  p,
              mul_comm (L s B) (D s S),
            )

        as_good : (B : Set) → (BetterSet s S B → ⊥) → L s B * D s C ≤ D s B * L s C
        as_good B n =
            cross_chain (D s B) (L s B) (D s S) (L s S) (D s C) (L s C)
            (omega (arith, mul_comm (D s B) (L s S)))
            (omega (arith, weighs_zero z, mul_comm (L s C) (D s S)))
            dead

-- Rounds end in the pick.
pub rounds_pick : {s : Survey} {C P : Set} {k : ℕ} → Eligible s C → 0 < D s C → Rounds s C k P → IsPick s P
rounds_pick {s} {C} e p (last h z) = last_pick s C h e p z
rounds_pick {s} {C} e p (more h d r) = rounds_pick h.greatest.eligible (more_dead s C h d) r

-- What is gained by X, of x dead and y live, beside a set S: where X is worth it by S's weights, it is by those of any C that S is worth it by.
gain : (dS lS dM lM dC lC x y : ℕ) → dM * lS + (lM + y) * dS ≤ (dM + x) * lS + lM * dS → lS * dC ≤ dS * lC → 0 < dS → dS * lC + (lS + y) * dC ≤ (dS + x) * lC + lS * dC
gain dS lS dM lM dC lC x y h k p =
    omega (arith, cross_chain x y dS lS dC lC (omega arith) (omega (arith, mul_comm dS lC)) p)

-- Nested: the heaviest set for S's weights lies in S, where S is the heaviest for C's and weighs more than 0.
pub nested : (s : Survey) (C : Set) {S B : Set} → Heaviest s (weights s C) S → (WeighsZero s (weights s C) S → ⊥) → Heaviest s (weights s S) B → Contains s S B
nested s C {S} {B} h d b =
    contains_trans
    (heavy_within s C h (eligible_union h.greatest.eligible b.greatest.eligible) (to_at_most s C S (union S B) worth))
    (union_right S B)
  where
    -- what B has outside S is what the union has more than S, and what B has more than the two share
    beyond : (f : ℕ → ℕ) → ℕ
    beyond f = total s f (union S B) - total s f S

    of_union : (f : ℕ → ℕ) → total s f (union S B) ≡ total s f S + beyond f
    of_union f = omega (arith, total_within s f S (union S B) (union_left S B))

    of_b : (f : ℕ → ℕ) → total s f B ≡ total s f (meet S B) + beyond f
    of_b f = omega (arith, total_union s f S B, total_within s f S (union S B) (union_left S B))

    worth : D s S * L s C + L s (union S B) * D s C ≤ D s (union S B) * L s C + L s S * D s C
    worth =
        rw (of_union (dead_of s), of_union (cost_of s))
        (gain (D s S) (L s S) (D s (meet S B)) (L s (meet S B)) (D s C) (L s C) (beyond (dead_of s)) (beyond (cost_of s))
        (rw (of_b (dead_of s), of_b (cost_of s)) at (at_most s S (meet S B) B (b.greatest.most (meet S B) (eligible_meet h.greatest.eligible b.greatest.eligible))))
        (weighs_not_below s C h)
        (more_dead s C h d))

-- the number of groups in a set
abbrev pub size : Survey → Set → ℕ
size s S = total s (λ g. 1) S

-- A set inside another that has no fewer groups is the same.
pub same_size : (s : Survey) {A B : Set} → Contains s A B → size s A ≤ size s B → Same s A B
unfolding total
same_size s {A} {B} c le = contains_both c (record { has = λ g l m. by_test (B g) (λ y. y) (λ z. absurd (fewer g l m z)) })
  where
    at : (t u : Bool) → (t ≡ true → u ≡ true) → only t 1 ≤ only u 1
    at false u f = omega arith
    at true u f = rw (f refl) (omega arith)

    fewer : (g : ℕ) → g < s.n → In A g → Out B g → ⊥
    fewer g l m z =
        omega (
          arith,
          sum_lt s.n (λ i. only (B i) 1) (λ i. only (A i) 1) (λ i k. at (B i) (A i) (c.has i k)) g l (rw (m, z) (omega arith)),
        )
