-- Laws of the two sums.
-- Assumes nothing.
use Rattle.std.proofs.Common.{◌≡◌, ℕ, zero, suc, ◌+◌, ◌<◌, refl, ap₂, add-one, arith}
use Rattle.survey.specs.SurveyFile.{Sums, sums_begin, sums_after, sums}

module _ (x : ℕ → ℕ) where
  pub sums_none : sums x 0 ≡ sums_begin
  unfolding sums
  sums_none = refl

  pub sums_more : (k : ℕ) → sums x (k + 1) ≡ sums_after (sums x k) (x k)
  unfolding sums
  sums_more k = rw add-one

-- The sums of two runs of words are the same where the words are.
pub sums_same : (x y : ℕ → ℕ) (k : ℕ) → ((w : ℕ) → w < k → x w ≡ y w) → sums x k ≡ sums y k
unfolding sums
sums_same x y zero h = refl
sums_same x y (suc k) h = ap₂ (λ (s : Sums) (z : ℕ). sums_after s z) (sums_same x y k (λ w l. h w (omega arith))) (h k (omega arith))
