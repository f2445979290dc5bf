-- What a range's `all` and `any` say of the numbers of the range.
use Prim.Native.Nat.{ℕ, ◌+◌, ◌-◌, ◌≤◌, ◌<◌}
use mathlib.Core.Path.{◌≡◌, refl, sym, subst}
use mathlib.Core.Bool.{Bool, true, false}
use mathlib.Core.List.{List}
use native.Mathlib.Omega.{arith}
use lib.ListN.{length, get_or}
use denote.Param.Members.{Mut}
use Rattle.std.specs.Bool.{MatchBool}
use Rattle.std.specs.Fn.{Called}
use Rattle.std.specs.Iterator.{YieldsThen}
use Rattle.std.specs.List.{range_with_len, FoldsTo, AllWithin, HoldsAt}
use Rattle.std.specs.Option.{MatchOption}
use Rattle.std.specs.declared.ops.Range.{Range}
use Rattle.std.specs.Prelude.{Option}
use Rattle.std.proofs.iter.Yields.{nat_range_steps}
use Rattle.std.proofs.lemmas.Iterator.{cases_from_all, YieldsList-from_range}
use Rattle.std.proofs.lemmas.List.FromFn.{length-range_with_len, get_or-range_with_len}
use Rattle.refusals.specs.Searches.{Tells}

module _ {F : Type 0} {g : Mut F (ℕ × Unit {0}) Bool} (a n : ℕ) (u : Range ℕ) (f : F) (r : Bool) (P : ℕ → Type 0) where
  pub all_from_to :
      (xs : List ℕ) × (o : Option ℕ) × (j : F) × YieldsThen nat_range_steps (record { start = a; end = n }) xs o u × FoldsTo (λ p x q. Called g p (x, tt) true q) f xs j
      × MatchOption o (r ≡ true) (λ x. (r ≡ false) × ((h : F) × Called g j (x, tt) false h))
      → ((x : ℕ) (q : F) → Called g f (x, tt) true q → (q ≡ f) × P x) → ((x : ℕ) (q : F) → Called g f (x, tt) false q → P x → ⊥)
      → Tells ((k : ℕ) → a ≤ k → k < n → P k) r
  all_from_to d yes' no' = by r (cases_from_all u f r P (λ x. P x → ⊥) d (YieldsList-from_range a n (n - a) refl refl) yes' no')
    where
      items : List ℕ
      items = range_with_len a (n - a)

      long : length items ≡ n - a
      long = length-range_with_len a (n - a)

      at : (k : ℕ) → a ≤ k → k < n → get_or items (k - a) 0 ≡ k
      at k h l = omega (arith, get_or-range_with_len a (n - a) (k - a) 0 (omega arith))

      by : (t : Bool) → MatchBool t (AllWithin P items 0 (length items)) ((k : ℕ) × (k < length items) × HoldsAt (λ x. P x → ⊥) items k) → Tells ((k : ℕ) → a ≤ k → k < n → P k) t
      by true h = λ k m l. subst P (at k m l) (h (k - a) 0 (omega arith) (omega (arith, long)))
      by false h = λ all.
          let l : h.0 < n - a = omega (arith, long, h.1) in
          let e : get_or items h.0 0 ≡ a + h.0 = get_or-range_with_len a (n - a) h.0 0 l in
          h.2 0 (subst P (sym e) (all (a + h.0) (omega arith) (omega arith)))

-- the same from 0 on
pub all_of_range : {F : Type 0} {g : Mut F (ℕ × Unit {0}) Bool} (n : ℕ) (u : Range ℕ) (f : F) (r : Bool) (P : ℕ → Type 0)
    → (xs : List ℕ) × (o : Option ℕ) × (j : F) × YieldsThen nat_range_steps (record { start = 0; end = n }) xs o u × FoldsTo (λ p x q. Called g p (x, tt) true q) f xs j
    × MatchOption o (r ≡ true) (λ x. (r ≡ false) × ((h : F) × Called g j (x, tt) false h))
    → ((x : ℕ) (q : F) → Called g f (x, tt) true q → (q ≡ f) × P x) → ((x : ℕ) (q : F) → Called g f (x, tt) false q → P x → ⊥)
    → Tells ((k : ℕ) → k < n → P k) r
all_of_range n u f r P d yes' no' = by r (all_from_to 0 n u f r P d yes' no')
  where
    by : (t : Bool) → Tells ((k : ℕ) → 0 ≤ k → k < n → P k) t → Tells ((k : ℕ) → k < n → P k) t
    by true h = λ k l. h k (omega arith) l
    by false h = λ all. h (λ k m l. all k l)
