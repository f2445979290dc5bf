-- No link stands twice, so at most n links start at a group and at most n end there: what a group gets and pays stays small.
use Prim.Native.Nat.{ℕ, zero, suc, ◌+◌, ◌-◌, ◌*◌, ◌≤◌, ◌<◌, zero-le}
use native.Mathlib.Nat.{mul-le-mul_right, le_trans, le_of_eq}
use native.Mathlib.Omega.{arith}
use mathlib.Core.Path.{◌≡◌, refl, sym, ◌∙◌}
use mathlib.Core.Logic.{inl, inr, ⊎_elim}
use mathlib.Core.Bool.{Bool, true, false, ◌&&◌}
use lib.Dec.{eqb, ltb}
use borrow.Author.Tests.{eqb-true, eqb-false, ne_eqb, lt-ltb, le-ltb, ltb-true, ltb-false}
use Rattle.survey.specs.Limits.{group_limit, amount_limit}
use Rattle.survey.specs.Survey.{Link, Survey, Ascends}
use Rattle.survey.specs.Sets.{sum, only}
use Rattle.survey.specs.Balance.{Amounts, gets, pays}
use Rattle.survey.proofs.SumOrder.{before_or_last, sum_le}
use Rattle.survey.proofs.Sums.{sum_cong, sum_add, sum_mul, sum_zero}
use Rattle.survey.proofs.Totals.{by_test}
use Rattle.survey.proofs.Eligible.{first_in, second_in}
use Rattle.survey.specs.Sound.{Sound}

ascends_trans : {a b c : Link} → Ascends a b → Ascends b c → Ascends a c
ascends_trans (inl x) (inl y) = inl (omega arith)
ascends_trans (inl x) (inr y) = inl (omega arith)
ascends_trans (inr x) (inl y) = inl (omega arith)
ascends_trans (inr x) (inr y) = inr (x.0 ∙ y.0, omega arith)

-- each link stands below every later one
pub below_later : {s : Survey} → Sound s → (i j : ℕ) → i < j → j < s.e → Ascends (s.link i) (s.link j)
below_later x i zero l h = absurd (omega arith)
below_later {s} x i (suc j) l h =
    ⊎_elim (λ b. ascends_trans (below_later x i j b (omega arith)) next) (λ e. rw e next) (before_or_last j i l)
  where
    next : Ascends (s.link j) (s.link (suc j))
    next = let e : suc j - 1 ≡ j = omega arith in rw e at (x.ascends (suc j) (omega arith) h)

differ : {i j : Link} → Ascends i j → i.from ≡ j.from → i.to ≡ j.to → ⊥
differ (inl l) p q = omega arith
differ (inr l) p q = omega arith

-- No link stands twice.
pub link_once : {s : Survey} → Sound s → (j k : ℕ) → j < s.e → k < s.e → (s.link j).from ≡ (s.link k).from → (s.link j).to ≡ (s.link k).to → j ≡ k
link_once x j k a b p q =
    at_most_at_least (λ l. differ (below_later x j k l b) p q) (λ l. differ (below_later x k j l a) (sym p) (sym q))
  where
    at_most_at_least : {u v : ℕ} → (u < v → ⊥) → (v < u → ⊥) → u ≡ v
    at_most_at_least d f = omega arith

-- One law for both ends: links of which no two have both ends alike, with their second ends below n, are at most n to a first end.
module _ (e : ℕ) (first second : ℕ → ℕ) (apart : (i j : ℕ) → i < j → j < e → first i ≡ first j → second i ≡ second j → ⊥) where
  is : ℕ → ℕ → ℕ → Bool
  is g h k = eqb (first k) g && eqb (second k) h

  -- at most one link from g to h
  one_at_most : (g h m : ℕ) → m ≤ e → sum m (λ k. only (is g h k) 1) ≤ 1
  unfolding sum is
  one_at_most g h zero l = omega arith
  one_at_most g h (suc m) l = by_test (is g h m) (λ y. rw y (omega (arith, others y))) (λ z. rw z (omega (arith, one_at_most g h m (omega arith))))
    where
      others : is g h m ≡ true → sum m (λ k. only (is g h k) 1) ≡ 0
      others y = sum_zero m (λ k. only (is g h k) 1) (λ k b. by_test (is g h k) (λ z. absurd (both k b z)) (λ z. rw z))
        where
          both : (k : ℕ) → k < m → is g h k ≡ true → ⊥
          both k b z =
              apart k m b (omega arith)
              (eqb-true (first k) g (first_in (eqb (first k) g) (eqb (second k) h) z) ∙ sym (eqb-true (first m) g (first_in (eqb (first m) g) (eqb (second m) h) y)))
              (eqb-true (second k) h (second_in (eqb (first k) g) (eqb (second k) h) z) ∙ sym (eqb-true (second m) h (second_in (eqb (first m) g) (eqb (second m) h) y)))

  -- of the links from g, those with a second end below m are at most m
  few_below : (g m : ℕ) → sum e (λ k. only (eqb (first k) g && ltb (second k) m) 1) ≤ m
  unfolding is
  few_below g zero =
      omega (
        arith,
        sum_zero e (λ k. only (eqb (first k) g && ltb (second k) 0) 1) (λ k l. none (eqb (first k) g) (ltb (second k) 0) (le-ltb (second k) 0 (omega arith))),
      )
    where
      none : (t u : Bool) → u ≡ false → only (t && u) 1 ≡ 0
      none true u z = rw z
      none false u z = refl
  few_below g (suc m) =
      omega (
        arith,
        sum_cong e (λ k. only (eqb (first k) g && ltb (second k) (suc m)) 1)
            (λ k. only (eqb (first k) g && ltb (second k) m) 1 + only (eqb (first k) g && eqb (second k) m) 1)
            (λ k l. parts (eqb (first k) g) (second k)),
        sum_add e (λ k. only (eqb (first k) g && ltb (second k) m) 1) (λ k. only (eqb (first k) g && eqb (second k) m) 1),
        few_below g m,
        one_at_most g m e (omega arith),
      )
    where
      parts : (t : Bool) (x : ℕ) → only (t && ltb x (suc m)) 1 ≡ only (t && ltb x m) 1 + only (t && eqb x m) 1
      parts false x = refl
      parts true x =
          by_test (ltb x m)
          (λ y. let l : x < m = ltb-true x m y in rw (y, lt-ltb x (suc m) (omega arith), ne_eqb x m (λ e. omega arith)) refl)
          (λ z. by_test (eqb x m)
          (λ y. let q : x ≡ m = eqb-true x m y in rw (z, y, lt-ltb x (suc m) (omega arith)) refl)
          (λ w. let d : x ≡ m → ⊥ = eqb-false x m w in let b : m ≤ x = ltb-false x m z in rw (z, w, le-ltb x (suc m) (omega arith)) refl))

  -- and all of them where that is every group
  pub few_links : (n g : ℕ) → ((k : ℕ) → k < e → second k < n) → sum e (λ k. only (eqb (first k) g) 1) ≤ n
  few_links n g inside =
      omega (
        arith,
        few_below g n,
        sum_cong e (λ k. only (eqb (first k) g) 1) (λ k. only (eqb (first k) g && ltb (second k) n) 1)
            (λ k l. whole (eqb (first k) g) (ltb (second k) n) (lt-ltb (second k) n (inside k l))),
      )
    where
      whole : (t u : Bool) → u ≡ true → only t 1 ≡ only (t && u) 1
      whole true u y = rw y
      whole false u y = refl

  -- so what stands on them, at most c each, is at most n times that
  pub few_sum : (n g c : ℕ) (a : ℕ → ℕ) → ((k : ℕ) → k < e → second k < n) → ((k : ℕ) → k < e → a k ≤ c) → sum e (λ k. only (eqb (first k) g) (a k)) ≤ n * c
  few_sum n g c a inside small =
      le_trans (sum_le e (λ k. only (eqb (first k) g) (a k)) (λ k. only (eqb (first k) g) 1 * c) (λ k l. at (eqb (first k) g) (a k) (small k l)))
      (le_trans (le_of_eq (sum_mul e (λ k. only (eqb (first k) g) 1) c)) (mul-le-mul_right c (few_links n g inside)))
    where
      at : (t : Bool) (x : ℕ) → x ≤ c → only t x ≤ only t 1 * c
      at true x h = omega arith
      at false x h = zero-le

-- What a group of an admitted survey gets, and what it pays, where each amount is within its limit: no sum of a balance wraps.
module _ {s : Survey} (x : Sound s) (a : Amounts) (small : (k : ℕ) → k < s.e → a k ≤ amount_limit) where
  pub gets_fit : (g : ℕ) → gets s a g ≤ group_limit * amount_limit
  unfolding gets
  gets_fit g =
      le_trans
      (few_sum s.e (λ k. (s.link k).from) (λ k. (s.link k).to) (λ i j l h p q. differ (below_later x i j l h) p q) s.n g amount_limit a x.inside.to small)
      (mul-le-mul_right amount_limit x.groups)

  pub pays_fit : (g : ℕ) → pays s a g ≤ group_limit * amount_limit
  unfolding pays
  pays_fit g =
      le_trans
      (few_sum s.e (λ k. (s.link k).to) (λ k. (s.link k).from) (λ i j l h p q. differ (below_later x i j l h) q p) s.n g amount_limit a x.inside.from small)
      (mul-le-mul_right amount_limit x.groups)
