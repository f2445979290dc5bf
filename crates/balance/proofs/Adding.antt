-- Amounts added along the links: what the lists hold after each, and that nothing wraps on the way.
use Prim.Native.Nat.{ℕ, zero, suc, ◌+◌, ◌≤◌, ◌<◌}
use native.Mathlib.Omega.{arith}
use mathlib.Core.Path.{◌≡◌, refl, sym, ap, ◌∙◌}
use mathlib.Core.Bool.{Bool, false}
use mathlib.Core.Logic.{⊎_elim}
use native.Mathlib.Nat.{eq-or-lt_of_le}
use Rattle.survey.proofs.Sums.{sum_more}
use Rattle.survey.proofs.Totals.{by_test}
use mathlib.Core.List.{List}
use lib.ListN.{length, get_or, set, length-set}
use lib.Seq.{get_or-set_same, get_or-set_other}
use lib.Dec.{eqb}
use borrow.Author.Tests.{eqb-true, eqb-false, eq-eqb, ne_eqb}
use Rattle.survey.specs.Sets.{sum, only}
use Rattle.survey.specs.Balance.{Amounts}
use Rattle.balance.specs.Balances.{amounts_at, AddAsks, Added, Takes}

-- A sum over the first of some terms is at most the sum over all.
sum_first : (e k : ℕ) (f : ℕ → ℕ) → k ≤ e → sum k f ≤ sum e f
unfolding sum
sum_first zero k f l = let z : k ≡ 0 = omega arith in rw z (omega arith)
sum_first (suc e) k f l =
    ⊎_elim (λ (q : k ≡ suc e). rw q (omega arith)) (λ (m : k < suc e). omega (arith, sum_first e k f (omega arith)))
    (eq-or-lt_of_le l)

module _ (ends : ℕ → ℕ) (a : Amounts) where
  next_here : (k g : ℕ) → ends k ≡ g → amounts_at ends a (k + 1) g ≡ amounts_at ends a k g + a k
  next_here k g e = sum_more k (λ j. only (eqb (ends j) g) (a j)) ∙ rw (eq-eqb (ends k) g e)

  next_elsewhere : (k g : ℕ) → (ends k ≡ g → ⊥) → amounts_at ends a (k + 1) g ≡ amounts_at ends a k g
  next_elsewhere k g d =
      let other : eqb (ends k) g ≡ false = ne_eqb (ends k) g d in
      omega (arith, sum_more k (λ j. only (eqb (ends j) g) (a j)), ap (λ (t : Bool). only t (a k)) other)

module _ {ends : ℕ → ℕ} {a : Amounts} {list : List ℕ} where
  pub added_none : Added ends a 0 list list
  unfolding sum
  added_none = record { long = refl; at = λ g h. omega arith }

  -- the place at the end of link k takes its amount
  pub add_asks : {e k p x : ℕ} {list' : List ℕ} → Takes ends a e list → k < e → Added ends a k list list' → p ≡ ends k → x ≡ a k → AddAsks list' p x
  add_asks {e} {k} {p} {x} {list'} t l w q z =
      rw (q, z)
      (record {
        within = omega (arith, t.within k l, w.long);
        fits =
            omega (
              arith,
              t.fits k l,
              w.at (ends k) (t.within k l),
              next_here ends a k (ends k) refl,
              sum_first e (k + 1) (λ j. only (eqb (ends j) (ends k)) (a j)) (omega arith),
            );
      })

  -- and then holds it
  pub added_more :
      {k p x : ℕ} {list' list'' : List ℕ} → ends k < length list → Added ends a k list list' → p ≡ ends k → x ≡ a k → list'' ≡ set list' p (get_or list' p 0 + x)
      → Added ends a (k + 1) list list''
  added_more {k} {p} {x} {list'} {list''} l w q z is =
      rw (is, q, z)
      (record {
        long = simp length-set w.long;
        at =
            λ g h.
            by_test (eqb g (ends k))
            (λ e.
            let same : g ≡ ends k = eqb-true g (ends k) e in
            rw (same, get_or-set_same list' (ends k) (get_or list' (ends k) 0 + a k) 0 (omega (arith, w.long)))
            (omega (arith, w.at (ends k) l, next_here ends a k (ends k) refl)))
            (λ e.
            let other : g ≡ ends k → ⊥ = eqb-false g (ends k) e in
            get_or-set_other list' (ends k) g (get_or list' (ends k) 0 + a k) 0 other
            ∙ omega (arith, w.at g h, next_elsewhere ends a k g (λ y. other (sym y))));
      })
