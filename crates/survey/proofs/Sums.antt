-- Laws of `sum`: each an induction of two clauses, over any length and any terms.
use Prim.Native.Nat.{ℕ, zero, suc, ◌+◌, ◌*◌, ◌≤◌, ◌<◌}
use native.Mathlib.Nat.{zero-mul, le_step, lt-suc_self, add-mul}
use native.Mathlib.Omega.{arith}
use native.Mathlib.Numerals.{add-one}
use mathlib.Core.Path.{◌≡◌, refl, ap, sym, ◌∙◌}
use mathlib.Core.Bool.{Bool, true, false}
use mathlib.Core.Logic.{⊎_elim}
use lib.Dec.{eqb}
use borrow.Author.Tests.{eq-eqb, ne_eqb}
use Rattle.survey.specs.Sets.{sum, only}
use Rattle.survey.proofs.SumOrder.{before_or_last}

-- one term more
pub sum_more : (n : ℕ) (f : ℕ → ℕ) → sum (n + 1) f ≡ sum n f + f n
unfolding sum
sum_more n f = rw add-one

pub sum_cong : (n : ℕ) (f g : ℕ → ℕ) → ((i : ℕ) → i < n → f i ≡ g i) → sum n f ≡ sum n g
unfolding sum
sum_cong zero f g h = refl
sum_cong (suc n) f g h = omega (arith, sum_cong n f g (λ i l. h i (le_step l)), h n (lt-suc_self n))

pub sum_add : (n : ℕ) (f g : ℕ → ℕ) → sum n (λ i. f i + g i) ≡ sum n f + sum n g
unfolding sum
sum_add zero f g = refl
sum_add (suc n) f g = omega (arith, sum_add n f g)

pub sum_zero : (n : ℕ) (f : ℕ → ℕ) → ((i : ℕ) → i < n → f i ≡ 0) → sum n f ≡ 0
unfolding sum
sum_zero zero f h = refl
sum_zero (suc n) f h = omega (arith, sum_zero n f (λ i l. h i (le_step l)), h n (lt-suc_self n))

pub sum_mul : (n : ℕ) (f : ℕ → ℕ) (c : ℕ) → sum n (λ i. f i * c) ≡ sum n f * c
unfolding sum
sum_mul zero f c = sym (zero-mul c)
sum_mul (suc n) f c = omega (arith, sum_mul n f c, add-mul (sum n f) (f n) c)

-- Two sums, one inside the other, may change places.
pub sum_swap : (n m : ℕ) (f : ℕ → ℕ → ℕ) → sum n (λ i. sum m (λ j. f i j)) ≡ sum m (λ j. sum n (λ i. f i j))
unfolding sum
sum_swap zero m f = sym (sum_zero m (λ j. 0) (λ i l. refl))
sum_swap (suc n) m f =
    omega (arith, sum_swap n m f, sum_add m (λ j. sum n (λ i. f i j)) (λ j. f n j))

-- one term is at most the sum
pub term_le : (n : ℕ) (f : ℕ → ℕ) (i : ℕ) → i < n → f i ≤ sum n f
unfolding sum
term_le zero f i l = absurd (omega arith)
term_le (suc n) f i l = ⊎_elim (λ b. omega (arith, term_le n f i b)) (λ e. omega (arith, ap f e)) (before_or_last n i l)

-- a sum that is 0 has only terms that are 0
pub terms_zero : (n : ℕ) (f : ℕ → ℕ) → sum n f ≡ 0 → (i : ℕ) → i < n → f i ≡ 0
terms_zero n f z i l = omega (arith, term_le n f i l)

-- a test before a sum goes to each of its terms
pub only_sum : (n : ℕ) (t : Bool) (f : ℕ → ℕ) → only t (sum n f) ≡ sum n (λ i. only t (f i))
only_sum n true f = refl
only_sum n false f = sym (sum_zero n (λ i. 0) (λ i l. refl))

-- Of the terms that stand at p only one is met.
pub sum_pick : (n : ℕ) (S : ℕ → Bool) (p x : ℕ) → p < n → sum n (λ g. only (S g) (only (eqb p g) x)) ≡ only (S p) x
unfolding sum
sum_pick zero S p x l = absurd (omega arith)
sum_pick (suc n) S p x l =
    ⊎_elim (λ b. omega (arith, sum_pick n S p x b, miss n (λ u. omega arith)))
    (λ e. omega (arith, sum_zero n (λ g. only (S g) (only (eqb p g) x)) (λ g k. miss g (λ u. omega arith)), hit e))
    (before_or_last n p l)
  where
    never : (t : Bool) → only t 0 ≡ 0
    never true = refl
    never false = refl

    miss : (g : ℕ) → (p ≡ g → ⊥) → only (S g) (only (eqb p g) x) ≡ 0
    miss g d = rw (ne_eqb p g d) (never (S g))

    hit : p ≡ n → only (S n) (only (eqb p n) x) ≡ only (S p) x
    hit e = rw (e, eq-eqb n n refl)

-- Exchange: what stands on the links by one of their ends, summed over the groups of a set, is the sum over the links with that end in the set.
pub exchange : (n e : ℕ) (end : ℕ → ℕ) (a : ℕ → ℕ) (S : ℕ → Bool) → ((k : ℕ) → k < e → end k < n) → sum n (λ g. only (S g) (sum e (λ k. only (eqb (end k) g) (a k)))) ≡ sum e
    (λ k. only (S (end k)) (a k))
exchange n e end a S below =
    sum_cong n (λ g. only (S g) (sum e (λ k. only (eqb (end k) g) (a k)))) (λ g. sum e (λ k. only (S g) (only (eqb (end k) g) (a k))))
    (λ g l. only_sum e (S g) (λ k. only (eqb (end k) g) (a k)))
    ∙ sum_swap n e (λ g k. only (S g) (only (eqb (end k) g) (a k)))
    ∙ sum_cong e (λ k. sum n (λ g. only (S g) (only (eqb (end k) g) (a k)))) (λ k. only (S (end k)) (a k)) (λ k l. sum_pick n S (end k) (a k) (below k l))
