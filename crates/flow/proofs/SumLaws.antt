-- Sums of which one term changes.
use Prim.Native.Nat.{ℕ, zero, suc, ◌+◌, ◌<◌}
use mathlib.Core.Path.{◌≡◌, ap}
use mathlib.Core.Logic.{⊎_elim}
use native.Mathlib.Omega.{arith}
use Rattle.survey.specs.Sets.{sum}
use Rattle.survey.proofs.SumOrder.{before_or_last}
use Rattle.survey.proofs.Sums.{sum_cong}

-- At g the first is larger by d, and elsewhere the two are the same.
pub sum_change :
    (n : ℕ) (f f' : ℕ → ℕ) (g d : ℕ) → g < n → ((i : ℕ) → i < n → (i ≡ g → ⊥) → f i ≡ f' i) → f g ≡ f' g + d → sum n f ≡ sum n f' + d
unfolding sum
sum_change zero f f' g d l same at = absurd (omega arith)
sum_change (suc n) f f' g d l same at =
    ⊎_elim (λ b. omega (arith, sum_change n f f' g d b (λ i k. same i (omega arith)) at, same n (omega arith) (λ z. omega arith)))
    (λ z. omega (arith, sum_cong n f f' (λ i k. same i (omega arith) (λ y. omega arith)), ap f z, ap f' z))
    (before_or_last n g l)
