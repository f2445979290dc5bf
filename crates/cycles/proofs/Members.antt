-- Sets with one group more or less, and how many groups are in a set.
use Prim.Native.Nat.{ℕ, zero, suc, ◌+◌, ◌<◌, ◌≤◌}
use mathlib.Core.Path.{◌≡◌, refl, sym, ap, ◌∙◌}
use mathlib.Core.Bool.{Bool, true, false, ◌&&◌, ◌||◌, not}
use mathlib.Core.Logic.{◌⊎◌, inl, inr, ⊎_elim}
use native.Mathlib.Omega.{arith}
use lib.Dec.{eqb}
use borrow.Author.Tests.{eqb-true, eqb-false, eq-eqb, ne_eqb}
use Rattle.survey.specs.Sets.{Set, In, Out, sum, only}
use Rattle.survey.proofs.SumOrder.{before_or_last, sum_at_most}
use Rattle.survey.proofs.Sums.{sum_cong}
use Rattle.survey.proofs.Totals.{by_test, not_both}
use Rattle.cycles.specs.Peeling.{without}

-- S and g
abbrev pub joined : ℕ → Set → Set
joined g S h = eqb h g || S h

module _ (g : ℕ) (S : Set) where
  pub joined_self : In (joined g S) g
  joined_self = rw (eq-eqb g g refl)

  pub joined_other : (h : ℕ) → (h ≡ g → ⊥) → joined g S h ≡ S h
  joined_other h d = rw (ne_eqb h g d)

  pub joined_in : (h : ℕ) → In (joined g S) h → (h ≡ g) ⊎ In S h
  joined_in h = at (eqb h g) refl
    where
      at : (t : Bool) → eqb h g ≡ t → In (joined g S) h → (h ≡ g) ⊎ In S h
      at true e i = inl (eqb-true h g e)
      at false e i = inr (rw e at i)

  pub joined_has : (h : ℕ) → In S h → In (joined g S) h
  joined_has h i = at (eqb h g)
    where
      at : (t : Bool) → (t || S h) ≡ true
      at true = refl
      at false = i

  pub joined_out : (h : ℕ) → Out (joined g S) h → (h ≡ g → ⊥) × Out S h
  joined_out h = at (eqb h g) refl
    where
      at : (t : Bool) → eqb h g ≡ t → Out (joined g S) h → (h ≡ g → ⊥) × Out S h
      at true e o = absurd (not_both refl (rw e at o))
      at false e o = (eqb-false h g e, rw e at o)

  pub without_other : (h : ℕ) → (h ≡ g → ⊥) → without g S h ≡ S h
  without_other h d = rw (ne_eqb h g d)

  pub without_self : Out (without g S) g
  without_self = rw (eq-eqb g g refl)

  pub without_in : (h : ℕ) → In (without g S) h → (h ≡ g → ⊥) × In S h
  without_in h = at (eqb h g) refl
    where
      at : (t : Bool) → eqb h g ≡ t → In (without g S) h → (h ≡ g → ⊥) × In S h
      at true e i = absurd (not_both (rw e at i) refl)
      at false e i = (eqb-false h g e, rw e at i)

  -- A group that is in no set comes and goes again.
  pub joined_without : Out S g → (h : ℕ) → without g (joined g S) h ≡ S h
  joined_without o h = at (eqb h g) refl
    where
      at : (t : Bool) → eqb h g ≡ t → (not (eqb h g) && (eqb h g || S h)) ≡ S h
      at true e = rw e (sym (ap S (eqb-true h g e) ∙ o))
      at false e = rw e

-- in or out: a member is not another
pub members_differ : (S : Set) {g h : ℕ} → In S h → Out S g → h ≡ g → ⊥
members_differ S i o e = not_both i (ap S e ∙ o)

-- ---- sums that differ at one place

pub sum_one : (n : ℕ) (f f' : ℕ → ℕ) (k d : ℕ) → k < n → f k ≡ f' k + d → ((j : ℕ) → j < n → (j ≡ k → ⊥) → f j ≡ f' j) → sum n f ≡ sum n f' + d
unfolding sum
sum_one zero f f' k d l e same = absurd (omega arith)
sum_one (suc n) f f' k d l e same =
    ⊎_elim
    (λ b. omega (arith, sum_one n f f' k d b e (λ j m. same j (omega arith)), same n (omega arith) (λ z. omega arith)))
    (λ z. omega (arith, sum_cong n f f' (λ j m. same j (omega arith) (λ y. omega arith)), ap f z, ap f' z))
    (before_or_last n k l)

-- a sum above 0 has a term above 0
pub sum_some : (n : ℕ) (f : ℕ → ℕ) → 0 < sum n f → (i : ℕ) × (i < n) × (0 < f i)
unfolding sum
sum_some zero f h = absurd (omega arith)
sum_some (suc n) f h = at (f n) refl (sum_some n f)
  where
    at : (x : ℕ) → f n ≡ x → (0 < sum n f → (i : ℕ) × (i < n) × (0 < f i)) → (i : ℕ) × (i < suc n) × (0 < f i)
    at zero e go = let r = go (omega arith) in (r.0, omega arith, r.2)
    at (suc x) e go = (n, omega arith, omega arith)

-- ---- how many groups are in a set

pub one_at_most : (t : Bool) → only t 1 ≤ 1
one_at_most true = omega arith
one_at_most false = omega arith

module _ (n : ℕ) (S : Set) where
  pub size_at_most : sum n (λ g. only (S g) 1) ≤ n
  size_at_most = omega (arith, sum_at_most n 1 (λ g. only (S g) 1) (λ g l. one_at_most (S g)))

  pub size_joined : (g : ℕ) → g < n → Out S g → sum n (λ h. only (joined g S h) 1) ≡ sum n (λ h. only (S h) 1) + 1
  size_joined g l o =
      sum_one n (λ h. only (joined g S h) 1) (λ h. only (S h) 1) g 1 l (rw (joined_self g S, o) refl)
      (λ h m d. ap (λ (t : Bool). only t 1) (joined_other g S h d))

-- a set of n groups below n has all of them
pub size_all : (n : ℕ) (S : Set) → sum n (λ g. only (S g) 1) ≡ n → (g : ℕ) → g < n → In S g
size_all n S e g l =
    by_test (S g) (λ i. i) (λ o. absurd (omega (arith, size_joined n S g l o, size_at_most n (joined g S))))

-- .. and one of fewer lacks one
pub size_lacks : (n : ℕ) (S : Set) → sum n (λ g. only (S g) 1) < n → (g : ℕ) × (g < n) × Out S g
unfolding sum
size_lacks zero S h = absurd (omega arith)
size_lacks (suc n) S h = at (S n) refl (size_lacks n S)
  where
    at : (t : Bool) → S n ≡ t → (sum n (λ g. only (S g) 1) < n → (g : ℕ) × (g < n) × Out S g) → (g : ℕ) × (g < suc n) × Out S g
    at false e go = (n, omega arith, e)
    at true e go = let r = go (less e h) in (r.0, omega arith, r.2)
      where
        less : S n ≡ true → sum n (λ g. only (S g) 1) + only (S n) 1 < suc n → sum n (λ g. only (S g) 1) < n
        less e = rw e (λ h. omega arith)
