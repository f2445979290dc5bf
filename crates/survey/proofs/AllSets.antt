-- Looking through all sets of groups: 2^n of them, up to what a set says from n on.
use Prim.Native.Nat.{ℕ, zero, suc, ◌<◌, ◌≤◌}
use mathlib.Core.Path.{◌≡◌, refl, sym, ◌∙◌}
use mathlib.Core.Bool.{Bool, true, false, not, cond}
use mathlib.Core.Option.{Option, some, none}
use mathlib.Core.Logic.{⊎_elim}
use native.Mathlib.Omega.{arith}
use lib.Dec.{eqb}
use borrow.Author.Tests.{eq-eqb, ne_eqb}
use Rattle.survey.specs.Survey.{Survey}
use Rattle.survey.specs.Sets.{Set, Same, no_group}
use Rattle.survey.proofs.SumOrder.{before_or_last}
use Rattle.survey.proofs.SameSets.{same_sym}
use Rattle.survey.proofs.Deciding.{Decides, told_yes, told_no, told_iff, told_stable, denied}

-- S with its word on group n changed to b
abbrev put : ℕ → Bool → Set → Set
put n b S g = cond (eqb g n) b (S g)

put_here : (n : ℕ) (b : Bool) (S : Set) → put n b S n ≡ b
put_here n b S = rw (eq-eqb n n refl)

put_above : (n : ℕ) (b : Bool) (S : Set) (g : ℕ) → n < g → put n b S g ≡ S g
put_above n b S g l = rw (ne_eqb g n (λ z. omega arith))

-- the test of one set
abbrev tried : Bool → Set → Option Set
tried true S = some S
tried false S = none

abbrev or_else : Option Set → Option Set → Option Set
or_else (some S) o = some S
or_else none o = o

-- A set that passes the test, among those that say from n on what S says. A let waits, so the first one found ends the looking.
unfoldable pub find_from : ℕ → Set → (Set → Bool) → Option Set
find_from zero S t = tried (t S) S
find_from (suc n) S t = let without = find_from n (put n false S) t in or_else (find_from n (put n true S) t) without

-- M says what B says below n, and what S says from n on.
record Joins (n : ℕ) (B S M : Set) : Type 0 where
  low : (g : ℕ) → g < n → M g ≡ B g
  high : (g : ℕ) → n ≤ g → M g ≡ S g

joins_next : {n : ℕ} {B S M : Set} (b : Bool) → B n ≡ b → Joins n B (put n b S) M → Joins (suc n) B S M
joins_next {n} {B} {S} b e j =
    record {
      low = λ g l. ⊎_elim (j.low g) (λ z. rw z (j.high n (omega arith) ∙ put_here n b S ∙ sym e)) (before_or_last n g l);
      high = λ g l. j.high g (omega arith) ∙ put_above n b S g l;
    }

-- What a search among the sets found.
data Searched (n : ℕ) (S : Set) (t : Set → Bool) : Option Set → Type 0 where
  passes : {M : Set} → t M ≡ true → Searched n S t (some M)
  none_passes : ((B : Set) → (M : Set) × Joins n B S M × (t M ≡ false)) → Searched n S t none

searched : (n : ℕ) (S : Set) (t : Set → Bool) → Searched n S t (find_from n S t)
unfolding find_from
searched zero S t = go (t S) refl
  where
    go : (b : Bool) → t S ≡ b → Searched zero S t (tried b S)
    go true e = passes e
    go false e = none_passes (λ B. (S, record { low = λ g l. absurd (omega arith); high = λ g l. refl }, e))
searched (suc n) S t = go (searched n (put n true S) t) (searched n (put n false S) t)
  where
    go : {x y : Option Set} → Searched n (put n true S) t x → Searched n (put n false S) t y → Searched (suc n) S t (or_else x y)
    go (passes e) y = passes e
    go (none_passes f) (passes e) = passes e
    go (none_passes f) (none_passes h) = none_passes (λ B. at B (B n) refl)
      where
        at : (B : Set) (b : Bool) → B n ≡ b → (M : Set) × Joins (suc n) B S M × (t M ≡ false)
        at B true z = let m = f B in (m.0, joins_next true z m.1, m.2)
        at B false z = let m = h B in (m.0, joins_next false z m.1, m.2)

-- A set of groups of the survey that passes the test, and whether there is one.
unfoldable pub find_set : Survey → (Set → Bool) → Option Set
find_set s t = find_from s.n no_group t

abbrev is_some : Option Set → Bool
is_some (some S) = true
is_some none = false

unfoldable pub any_set : Survey → (Set → Bool) → Bool
any_set s t = is_some (find_set s t)

unfoldable pub every_set : Survey → (Set → Bool) → Bool
every_set s t = not (any_set s (λ S. not (t S)))

-- A set that P holds of, or word that there is none.
pub data Found (P : Set → Type 0) : Option Set → Type 0 where
  found : {S : Set} → P S → Found P (some S)
  nowhere : ((S : Set) → P S → ⊥) → Found P none

-- P must not mind what a set says from n on, and t must decide it.
module _ {s : Survey} {P : Set → Type 0} {t : Set → Bool}
    (steady : (A B : Set) → Same s A B → P A → P B) (told : (S : Set) → Decides (P S) (t S)) where
  pub find_set_lem : Found P (find_set s t)
  unfolding find_set
  find_set_lem = go (searched s.n no_group t)
    where
      go : {o : Option Set} → Searched s.n no_group t o → Found P o
      go (passes {M = M} e) = found ((told M).so e)
      go (none_passes f) =
          nowhere (λ B p. let m = f B in (told m.0).not_so m.2 (steady B _ (record { at = λ g l. sym (m.1.low g l) }) p))

  pub any_set_lem : Decides ((S : Set) × P S) (any_set s t)
  unfolding any_set
  any_set_lem = go find_set_lem
    where
      go : {o : Option Set} → Found P o → Decides ((S : Set) × P S) (is_some o)
      go (found {S = S} p) = told_yes (S, p)
      go (nowhere f) = told_no (λ x. f x.0 x.1)

pub every_set_lem : {s : Survey} {P : Set → Type 0} {t : Set → Bool} → ((A B : Set) → Same s A B → P A → P B) → ((S : Set) → Decides (P S) (t S))
    → Decides ((S : Set) → P S) (every_set s t)
unfolding every_set
every_set_lem steady told =
    told_iff (λ d S. told_stable (told S) (λ f. d (S, f))) (λ f x. x.1 (f x.0))
    (denied (any_set_lem (λ A B e d p. d (steady B A (same_sym e) p)) (λ S. denied (told S))))
