-- The balance law: over a closed set the amounts on inner links cancel, and what leaves the set is what is left of them.
use Prim.Native.Nat.{ℕ, ◌+◌, ◌<◌}
use native.Mathlib.Omega.{arith}
use mathlib.Core.Path.{◌≡◌, refl, ◌∙◌}
use mathlib.Core.Bool.{Bool, true, false, ◌&&◌, not}
use Rattle.survey.specs.Survey.{Survey}
use Rattle.survey.specs.Sets.{Set, In, Out, Closed, sum, only, total}
use Rattle.survey.specs.Rounds.{Weights, total_plus, total_minus}
use Rattle.survey.specs.Balance.{Amounts, gets, pays, credit, debit, excess, lack}
use Rattle.survey.specs.Sound.{Inside}
use Rattle.survey.proofs.Sums.{sum_cong, sum_add, sum_zero, terms_zero, exchange}
use Rattle.survey.proofs.Totals.{total_add, total_cong, not_both}

-- the amounts on the links from inside the set to outside
unfoldable pub leaving : Survey → Amounts → Set → ℕ
leaving s a S = sum s.e (λ k. only (S (s.link k).from && not (S (s.link k).to)) (a k))

module _ (s : Survey) (a : Amounts) (S : Set) where
  -- nothing leaves, and so no link that leaves has an amount
  pub leaves_none : leaving s a S ≡ 0 → (k : ℕ) → k < s.e → In S (s.link k).from → Out S (s.link k).to → 0 < a k → ⊥
  unfolding leaving
  leaves_none z k l f t p =
      let e : a k ≡ 0 =
      rw (f, t) at (terms_zero s.e (λ k. only (S (s.link k).from && not (S (s.link k).to)) (a k)) z k l) in
      omega arith

  pub none_leaves : ((k : ℕ) → k < s.e → In S (s.link k).from → Out S (s.link k).to → 0 < a k → ⊥) → leaving s a S ≡ 0
  unfolding leaving
  none_leaves h =
      sum_zero s.e (λ k. only (S (s.link k).from && not (S (s.link k).to)) (a k))
      (λ k l. at (S (s.link k).from) (S (s.link k).to) (a k) (h k l))
    where
      at : (t u : Bool) (x : ℕ) → (t ≡ true → u ≡ false → 0 < x → ⊥) → only (t && not u) x ≡ 0
      at false u x d = refl
      at true true x d = refl
      at true false x d = none x (d refl refl)
        where
          none : (x : ℕ) → (0 < x → ⊥) → x ≡ 0
          none x d = omega arith

  module _ (i : Inside s) where
    pub gets_total : total s (gets s a) S ≡ sum s.e (λ k. only (S (s.link k).from) (a k))
    unfolding total gets
    gets_total = exchange s.n s.e (λ k. (s.link k).from) a S i.from

    pub pays_total : total s (pays s a) S ≡ sum s.e (λ k. only (S (s.link k).to) (a k))
    unfolding total pays
    pays_total = exchange s.n s.e (λ k. (s.link k).to) a S i.to

    -- a closed set gets what it pays, and what leaves it besides
    gets_pays : Closed s S → total s (gets s a) S ≡ total s (pays s a) S + leaving s a S
    unfolding leaving
    gets_pays c =
        rw (gets_total, pays_total)
        (sum_cong s.e (λ k. only (S (s.link k).from) (a k))
        (λ k. only (S (s.link k).to) (a k) + only (S (s.link k).from && not (S (s.link k).to)) (a k))
        (λ k l. at (S (s.link k).from) (S (s.link k).to) (a k) (c.back k l))
        ∙ sum_add s.e (λ k. only (S (s.link k).to) (a k))
        (λ k. only (S (s.link k).from && not (S (s.link k).to)) (a k)))
      where
        at : (t u : Bool) (x : ℕ) → (u ≡ true → t ≡ true) → only t x ≡ only u x + only (t && not u) x
        at true true x h = omega arith
        at true false x h = omega arith
        at false true x h = absurd (not_both (h refl) refl)
        at false false x h = omega arith

    pub balance_law : (w : Weights) → Closed s S → total_plus s w S + leaving s a S + total s (lack s w a) S ≡ total_minus s w S + total s (excess s w a) S
    balance_law w c =
        omega (
          arith,
          gets_pays c,
          total_add s w.plus (gets s a) S,
          total_add s w.minus (pays s a) S,
          total_add s (excess s w a) (debit s w a) S,
          total_add s (lack s w a) (credit s w a) S,
          total_cong s (λ g. excess s w a g + debit s w a g) (λ g. lack s w a g + credit s w a g) S (λ g l m. omega arith),
        )
