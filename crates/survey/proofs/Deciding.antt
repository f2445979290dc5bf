-- Tests that compute, and what each of them tells. A test is written as a plain Bool; that it decides its statement is proved beside it.
use Prim.Native.Nat.{ℕ, zero, suc, ◌<◌, ◌≤◌}
use mathlib.Core.Path.{◌≡◌, refl}
use mathlib.Core.Bool.{Bool, true, false, not, ◌&&◌, ◌||◌, true≢false, false≢true}
use mathlib.Core.Logic.{◌⊎◌, inl, inr, ⊎_elim}
use native.Mathlib.Omega.{arith}
use lib.Dec.{eqb, leb, ltb}
use borrow.Author.Tests.{ltb-true, ltb-false, leb-true, leb-false, eqb-true, eqb-false}
use Rattle.survey.proofs.SumOrder.{before_or_last}

-- The test t decides P.
pub record Decides (P : Type 0) (t : Bool) : Type 0 where
  pub so : t ≡ true → P
  pub not_so : t ≡ false → P → ⊥

pub told_yes : {P : Type 0} → P → Decides P true
told_yes p = record { so = λ h. p; not_so = λ h x. true≢false h }

pub told_no : {P : Type 0} → (P → ⊥) → Decides P false
told_no d = record { so = λ h. absurd (false≢true h); not_so = λ h x. d x }

pub told_iff : {P Q : Type 0} {t : Bool} → (P → Q) → (Q → P) → Decides P t → Decides Q t
told_iff f g p = record { so = λ h. f (p.so h); not_so = λ h x. p.not_so h (g x) }

-- what the test must have said
pub holds_true : {P : Type 0} {t : Bool} → Decides P t → P → t ≡ true
holds_true {t = true} p x = refl
holds_true {t = false} p x = absurd (p.not_so refl x)

pub fails_false : {P : Type 0} {t : Bool} → Decides P t → (P → ⊥) → t ≡ false
fails_false {t = true} p d = absurd (d (p.so refl))
fails_false {t = false} p d = refl

-- What a test decides is so where it cannot fail to be.
pub told_stable : {P : Type 0} {t : Bool} → Decides P t → ((P → ⊥) → ⊥) → P
told_stable {t = true} p d = p.so refl
told_stable {t = false} p d = absurd (d (p.not_so refl))

-- The second test need only tell where the first statement holds.
pub both : {P Q : Type 0} {a b : Bool} → Decides P a → (P → Decides Q b) → Decides (P × Q) (a && b)
both {a = true} p q = let x = p.so refl in told_iff (λ y. (x, y)) (λ z. z.1) (q x)
both {a = false} p q = told_no (λ z. p.not_so refl z.0)

pub either : {P Q : Type 0} {a b : Bool} → Decides P a → Decides Q b → Decides (P ⊎ Q) (a || b)
either {a = true} p q = told_yes (inl (p.so refl))
either {a = false} p q = told_iff inr (⊎_elim (λ x. absurd (p.not_so refl x)) (λ y. y)) q

pub denied : {P : Type 0} {a : Bool} → Decides P a → Decides (P → ⊥) (not a)
denied {a = true} p = told_no (λ d. d (p.so refl))
denied {a = false} p = told_yes (p.not_so refl)

pub implied : {P Q : Type 0} {a b : Bool} → Decides P a → (P → Decides Q b) → Decides (P → Q) (not a || b)
implied {a = true} p q = let x = p.so refl in told_iff (λ y z. y) (λ f. f x) (q x)
implied {a = false} p q = told_yes (λ x. absurd (p.not_so refl x))

pub is_in : (t : Bool) → Decides (t ≡ true) t
is_in true = told_yes refl
is_in false = told_no false≢true

pub is_out : (t : Bool) → Decides (t ≡ false) (not t)
is_out true = told_no true≢false
is_out false = told_yes refl

pub less : (a b : ℕ) → Decides (a < b) (ltb a b)
less a b = record { so = ltb-true a b; not_so = λ h x. omega (arith, ltb-false a b h) }

pub at_most : (a b : ℕ) → Decides (a ≤ b) (leb a b)
at_most a b = record { so = leb-true a b; not_so = λ h x. omega (arith, leb-false a b h) }

pub equal : (a b : ℕ) → Decides (a ≡ b) (eqb a b)
equal a b = record { so = eqb-true a b; not_so = eqb-false a b }

-- ---- at every place below n

-- A let waits, so the first place that fails ends the looking.
unfoldable pub all_below : ℕ → (ℕ → Bool) → Bool
all_below zero t = true
all_below (suc n) t = let last = t n in all_below n t && last

pub all_below_lem : (n : ℕ) {P : ℕ → Type 0} {t : ℕ → Bool} → ((k : ℕ) → k < n → Decides (P k) (t k))
    → Decides ((k : ℕ) → k < n → P k) (all_below n t)
unfolding all_below
all_below_lem zero {P} h = told_yes (λ k l. absurd (omega arith))
all_below_lem (suc n) {P} h =
    told_iff (λ z k l. ⊎_elim (λ b. z.0 k b) (λ e. rw e z.1) (before_or_last n k l)) (λ f. (λ k l. f k (omega arith), f n (omega arith)))
    (both (all_below_lem n (λ k l. h k (omega arith))) (λ z. h n (omega arith)))
