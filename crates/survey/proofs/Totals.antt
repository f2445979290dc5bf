-- Laws of the sums over a set: how they go with the terms, and with sets inside one another, joined and met.
use Prim.Native.Nat.{ℕ, ◌+◌, ◌*◌, ◌≤◌, ◌<◌, zero-le}
use native.Mathlib.Nat.{le_refl, zero-mul}
use native.Mathlib.Omega.{arith}
use mathlib.Core.Path.{◌≡◌, refl, sym, ◌∙◌}
use mathlib.Core.Bool.{Bool, true, false, ◌&&◌, ◌||◌}
use Rattle.survey.specs.Survey.{Survey}
use Rattle.survey.specs.Sets.{Set, In, Contains, total, only, union, meet}
use Rattle.survey.proofs.SumOrder.{sum_le}
use Rattle.survey.proofs.Sums.{sum_cong, sum_add, sum_mul, sum_zero, term_le}

-- a Bool is true or false, with what follows from each
pub by_test : {A : Type 0} (t : Bool) → (t ≡ true → A) → (t ≡ false → A) → A
by_test true y z = y refl
by_test false y z = z refl

pub not_both : {t : Bool} → t ≡ true → t ≡ false → ⊥
not_both y z = let c : ◌≡◌ {A = ℕ} 0 1 = absurd_of y z in omega arith
  where
    absurd_of : {t : Bool} → t ≡ true → t ≡ false → ◌≡◌ {A = ℕ} 0 1
    absurd_of p q = cc

module _ (s : Survey) where
  pub total_cong : (f g : ℕ → ℕ) (S : Set) → ((i : ℕ) → i < s.n → In S i → f i ≡ g i) → total s f S ≡ total s g S
  unfolding total
  total_cong f g S h =
      sum_cong s.n (λ i. only (S i) (f i)) (λ i. only (S i) (g i)) (λ i l. at (S i) (h i l))
    where
      at : {x y : ℕ} (t : Bool) → (t ≡ true → x ≡ y) → only t x ≡ only t y
      at true e = e refl
      at false e = refl

  pub total_add : (f g : ℕ → ℕ) (S : Set) → total s (λ i. f i + g i) S ≡ total s f S + total s g S
  unfolding total
  total_add f g S =
      sum_cong s.n (λ i. only (S i) (f i + g i)) (λ i. only (S i) (f i) + only (S i) (g i)) (λ i l. at (f i) (g i) (S i))
      ∙ sum_add s.n (λ i. only (S i) (f i)) (λ i. only (S i) (g i))
    where
      at : (x y : ℕ) (t : Bool) → only t (x + y) ≡ only t x + only t y
      at x y true = refl
      at x y false = refl

  pub total_mul : (f : ℕ → ℕ) (c : ℕ) (S : Set) → total s (λ i. f i * c) S ≡ total s f S * c
  unfolding total
  total_mul f c S =
      sum_cong s.n (λ i. only (S i) (f i * c)) (λ i. only (S i) (f i) * c) (λ i l. at (f i) (S i))
      ∙ sum_mul s.n (λ i. only (S i) (f i)) c
    where
      at : (x : ℕ) (t : Bool) → only t (x * c) ≡ only t x * c
      at x true = refl
      at x false = sym (zero-mul c)

  -- where each term of A is a term of B, or is 0
  pub total_le : (f : ℕ → ℕ) (A B : Set) → ((i : ℕ) → i < s.n → In A i → 0 < f i → In B i) → total s f A ≤ total s f B
  unfolding total
  total_le f A B h = sum_le s.n (λ i. only (A i) (f i)) (λ i. only (B i) (f i)) (λ i l. at (A i) (B i) (f i) (h i l))
    where
      at : (t u : Bool) (x : ℕ) → (t ≡ true → 0 < x → u ≡ true) → only t x ≤ only u x
      at false u x h = zero-le
      at true true x h = le_refl x
      at true false x h = by_zero x (λ p. not_both (h refl p) refl)
        where
          by_zero : (x : ℕ) → (0 < x → ⊥) → x ≤ 0
          by_zero x d = omega arith

  pub total_within : (f : ℕ → ℕ) (A B : Set) → Contains s B A → total s f A ≤ total s f B
  total_within f A B c = total_le f A B (λ i l m p. c.has i l m)

  pub total_zero : (f : ℕ → ℕ) (S : Set) → ((i : ℕ) → i < s.n → In S i → f i ≡ 0) → total s f S ≡ 0
  unfolding total
  total_zero f S h = sum_zero s.n (λ i. only (S i) (f i)) (λ i l. at (S i) (h i l))
    where
      at : {x : ℕ} (t : Bool) → (t ≡ true → x ≡ 0) → only t x ≡ 0
      at true e = e refl
      at false e = refl

  pub member_le : (f : ℕ → ℕ) (S : Set) (i : ℕ) → i < s.n → In S i → f i ≤ total s f S
  unfolding total
  member_le f S i l m = rw m at (term_le s.n (λ i. only (S i) (f i)) i l)

  -- what two sets have, together, is what their union and what they share have
  pub total_union : (f : ℕ → ℕ) (A B : Set) → total s f (union A B) + total s f (meet A B) ≡ total s f A + total s f B
  unfolding total
  total_union f A B =
      sym (sum_add s.n (λ i. only (union A B i) (f i)) (λ i. only (meet A B i) (f i)))
      ∙ sum_cong s.n (λ i. only (union A B i) (f i) + only (meet A B i) (f i)) (λ i. only (A i) (f i) + only (B i) (f i)) (λ i l. at (f i) (A i) (B i))
      ∙ sum_add s.n (λ i. only (A i) (f i)) (λ i. only (B i) (f i))
    where
      at : (x : ℕ) (t u : Bool) → only (t || u) x + only (t && u) x ≡ only t x + only u x
      at x true true = refl
      at x true false = refl
      at x false true = omega arith
      at x false false = refl
