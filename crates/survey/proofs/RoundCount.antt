-- The count of rounds is at most the number of groups: each further round's set has fewer, and the last one's is not empty.
use Prim.Native.Nat.{ℕ, ◌≤◌, ◌<◌}
use native.Mathlib.Omega.{arith}
use mathlib.Core.Path.{◌≡◌}
use mathlib.Core.Bool.{Bool, true, false}
use Rattle.survey.specs.Survey.{Survey}
use Rattle.survey.specs.Sets.{Set, In, all_groups, only, total, dead_of, D}
use Rattle.survey.specs.Rounds.{Rounds, last, more, RoundsOf}
use Rattle.survey.proofs.SumOrder.{sum_at_most}
use Rattle.survey.proofs.Totals.{total_zero, member_le}
use Rattle.survey.proofs.SameSets.{same_refl}
use Rattle.survey.proofs.Rounds.{size}
use Rattle.survey.proofs.LastRound.{Current, begin, next, current_dead, round_fewer}

module _ (s : Survey) (C : Set) where
  pub size_few : size s C ≤ s.n
  unfolding total
  size_few = omega (arith, sum_at_most s.n 1 (λ g. only (C g) 1) (λ g l. one (C g)))
    where
      one : (t : Bool) → only t 1 ≤ 1
      one true = omega arith
      one false = omega arith

  -- a set with something dead is not empty
  dead_size : 0 < D s C → 0 < size s C
  dead_size p = at (λ z. omega (arith, total_zero s (dead_of s) C (λ g l m. absurd (none z g l m))))
    where
      none : size s C ≡ 0 → (g : ℕ) → g < s.n → In C g → ⊥
      none z g l m = omega (arith, member_le s (λ g. 1) C g l m)

      at : (size s C ≡ 0 → ⊥) → 0 < size s C
      at d = omega arith

rounds_within : {s : Survey} {C P : Set} {k : ℕ} → 0 < D s all_groups → Current s C → Rounds s C k P → k ≤ size s C
rounds_within {s} {C} p c (last h z) = dead_size s C (current_dead p c)
rounds_within p c (more h d r) = omega (arith, rounds_within p (next c h d) r, round_fewer c h d)

pub rounds_few : {s : Survey} {P : Set} {k : ℕ} → 0 < D s all_groups → RoundsOf s k P → k ≤ s.n
rounds_few {s} p r = omega (arith, rounds_within p (begin same_refl) r, size_few s all_groups)
