-- Sums in order: what is at most, or less, place by place is so in sum.
use Prim.Native.Nat.{ℕ, zero, suc, ◌*◌, ◌<◌, ◌≤◌}
use mathlib.Core.Path.{◌≡◌}
use mathlib.Core.Logic.{◌⊎◌, inl, inr}
use native.Mathlib.Decide.{ℕ_discrete}
use native.Mathlib.Omega.{arith}
use Rattle.survey.specs.Sets.{sum}

-- A place below n + 1 stands below n or is n: the step of each induction that looks for one place.
pub before_or_last : (n i : ℕ) → i < suc n → (i < n) ⊎ (i ≡ n)
before_or_last n i l = go (ℕ_discrete i n)
  where
    go : Dec (i ≡ n) → (i < n) ⊎ (i ≡ n)
    go (yes e) = inr e
    go (no d) = inl (omega arith)

pub sum_le : (n : ℕ) (f g : ℕ → ℕ) → ((i : ℕ) → i < n → f i ≤ g i) → sum n f ≤ sum n g
unfolding sum
sum_le zero f g h = omega arith
sum_le (suc n) f g h = omega (arith, sum_le n f g (λ i l. h i (omega arith)), h n (omega arith))

pub sum_lt : (n : ℕ) (f g : ℕ → ℕ) → ((i : ℕ) → i < n → f i ≤ g i) → (j : ℕ) → j < n → f j < g j → sum n f < sum n g
unfolding sum
sum_lt zero f g h j l d = absurd (omega arith)
sum_lt (suc n) f g h j l d = go (before_or_last n j l) (λ b. sum_lt n f g (λ i k. h i (omega arith)) j b d)
  where
    go : (j < n) ⊎ (j ≡ n) → (j < n → sum n f < sum n g) → sum (suc n) f < sum (suc n) g
    go (inl b) less = omega (arith, less b, h n (omega arith))
    go (inr e) less =
        let at : f n < g n = rw e at d in
        omega (arith, sum_le n f g (λ i k. h i (omega arith)))

pub sum_const : (n c : ℕ) → sum n (λ i. c) ≡ n * c
unfolding sum
sum_const zero c = omega arith
sum_const (suc n) c = omega (arith, sum_const n c)

-- n numbers of at most c each
pub sum_at_most : (n c : ℕ) (f : ℕ → ℕ) → ((i : ℕ) → i < n → f i ≤ c) → sum n f ≤ n * c
sum_at_most n c f h = rw (← sum_const n c) (sum_le n f (λ i. c) h)
