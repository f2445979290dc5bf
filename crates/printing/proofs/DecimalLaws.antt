-- Numbers in decimal: how they are put together, and how long they are.
use Prim.Native.Nat.{ℕ, zero, suc, ◌/◌, ◌%◌, ◌^◌, ◌≤◌, ◌<◌}
use native.Mathlib.Nat.{pow-suc}
use native.Mathlib.Omega.{arith}
use mathlib.Core.Path.{◌≡◌, refl, sym, ap, ◌∙◌}
use mathlib.Core.Bool.{Bool, true, false}
use mathlib.Core.List.{List, [], ◌∷◌, ◌++◌}
use lib.ListN.{length, length-append}
use lib.Dec.{ltb}
use borrow.Author.Tests.{lt-ltb, ltb-true, ltb-false}
use Rattle.printing.specs.Texts.{digit, tenths, decimal}

tenths_small : (k x : ℕ) → x < 10 → tenths k x ≡ digit x ∷ []
unfolding tenths
tenths_small zero x h = refl
tenths_small (suc k) x h = rw (lt-ltb x 10 h)

tenths_more : (k x : ℕ) → 10 ≤ x → tenths (suc k) x ≡ tenths k (x / 10) ++ digit (x % 10) ∷ []
unfolding tenths
tenths_more k x h = at (ltb x 10) refl
  where
    at : (t : Bool) → ltb x 10 ≡ t → tenths (suc k) x ≡ tenths k (x / 10) ++ digit (x % 10) ∷ []
    at true e = absurd (omega (arith, ltb-true x 10 e))
    at false e = rw e

-- how often the tenth is taken makes no difference, where it is often enough
tenths_enough : (j k x : ℕ) → x ≤ j → x ≤ k → tenths j x ≡ tenths k x
unfolding tenths
tenths_enough zero k x a b = sym (tenths_small k x (omega arith))
tenths_enough (suc j) zero x a b = tenths_small (suc j) x (omega arith)
tenths_enough (suc j) (suc k) x a b = at (ltb x 10) refl (λ h. tenths_enough j k (x / 10) (omega arith) (omega arith))
  where
    at : (t : Bool) → ltb x 10 ≡ t → (10 ≤ x → tenths j (x / 10) ≡ tenths k (x / 10)) → tenths (suc j) x ≡ tenths (suc k) x
    at true e go = let h : x < 10 = ltb-true x 10 e in tenths_small (suc j) x h ∙ sym (tenths_small (suc k) x h)
    at false e go =
        let h : 10 ≤ x = ltb-false x 10 e in
        tenths_more j x h ∙ ap (λ (t : List ℕ). t ++ digit (x % 10) ∷ []) (go h) ∙ sym (tenths_more k x h)

tenths_none : (x : ℕ) → tenths zero x ≡ digit x ∷ []
unfolding tenths
tenths_none x = refl

-- so many digits hold every number below that power of 10
tenths_short : (width k x : ℕ) → x < 10 ^ suc width → length (tenths k x) ≤ suc width
tenths_short width zero x h = rw (tenths_none x) (omega arith)
tenths_short zero (suc k) x h = rw (tenths_small (suc k) x (omega (arith, pow-suc 10 0))) (omega arith)
tenths_short (suc width) (suc k) x h = at (ltb x 10) refl (λ b. tenths_short width k (x / 10) (omega (arith, pow-suc 10 (suc width))))
  where
    at : (t : Bool) → ltb x 10 ≡ t → (10 ≤ x → length (tenths k (x / 10)) ≤ suc width) → length (tenths (suc k) x) ≤ suc (suc width)
    at true e go = rw (tenths_small (suc k) x (ltb-true x 10 e)) (omega arith)
    at false e go =
        let h : 10 ≤ x = ltb-false x 10 e in
        rw (tenths_more k x h) (omega (arith, length-append (tenths k (x / 10)) (digit (x % 10) ∷ []), go h))

pub decimal_small : (x : ℕ) → x < 10 → decimal x ≡ digit x ∷ []
unfolding decimal
decimal_small x h = tenths_small x x h

pub decimal_more : (x : ℕ) → 10 ≤ x → decimal x ≡ decimal (x / 10) ++ digit (x % 10) ∷ []
unfolding decimal
decimal_more zero h = absurd (omega arith)
decimal_more (suc k) h = tenths_more k (suc k) h ∙ ap (λ (t : List ℕ). t ++ digit (suc k % 10) ∷ []) (tenths_enough k (suc k / 10) (suc k / 10) (omega arith) (omega arith))

-- a number below a power of 10 has at most that many digits
pub decimal_width : (width x : ℕ) → x < 10 ^ suc width → length (decimal x) ≤ suc width
unfolding decimal
decimal_width width x h = tenths_short width x x h

-- a number of 64 bits has at most 20 digits, one below 1,000 at most 3
pub decimal_short : (x : ℕ) → x < 2 ^ 64 → length (decimal x) ≤ 20
decimal_short x h = decimal_width 19 x (omega arith)

pub decimal_of_three : (x : ℕ) → x < 1_000 → length (decimal x) ≤ 3
decimal_of_three x h = decimal_width 2 x (omega arith)

-- before the last digit there are at most 19
pub decimal_room : (x : ℕ) → 10 ≤ x → x < 2 ^ 64 → length (decimal (x / 10)) < 20
decimal_room x h b = omega (arith, ap length (decimal_more x h), length-append (decimal (x / 10)) (digit (x % 10) ∷ []), decimal_short x b)
