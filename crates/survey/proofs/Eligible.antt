-- What all laws use of the sets among which the pick is sought: the empty one, unions and what two of them share are among them.
use Prim.Native.Nat.{ℕ, ◌<◌}
use native.Mathlib.Omega.{arith}
use mathlib.Core.Path.{◌≡◌, refl}
use mathlib.Core.Logic.{◌↔◌}
use mathlib.Core.Bool.{Bool, true, false, ◌&&◌, ◌||◌}
use Rattle.survey.specs.Survey.{Survey}
use Rattle.survey.specs.Sets.{Set, Eligible, Contains, no_group, all_groups, union, meet, D, dead_of}
use Rattle.survey.specs.Pick.{Candidate}
use Rattle.survey.proofs.Totals.{not_both, total_zero, member_le}

either_in : (t u : Bool) {A : Type 0} → (t ≡ true → A) → (u ≡ true → A) → (t || u) ≡ true → A
either_in true u f g h = f refl
either_in false u f g h = g h

left_in : (t u : Bool) → t ≡ true → (t || u) ≡ true
left_in t u h = rw h

right_in : (t u : Bool) → u ≡ true → (t || u) ≡ true
right_in true u h = refl
right_in false u h = h

both_in : (t u : Bool) → t ≡ true → u ≡ true → (t && u) ≡ true
both_in t u p q = rw (p, q)

pub first_in : (t u : Bool) → (t && u) ≡ true → t ≡ true
first_in true u h = refl
first_in false u h = h

pub second_in : (t u : Bool) → (t && u) ≡ true → u ≡ true
second_in true u h = h
second_in false u h = absurd (not_both h refl)

-- what is said of each of two tests is said of both together, whichever way a link is looked along
over_union : {t u v w : Bool} → (t ≡ true → v ≡ true) → (u ≡ true → w ≡ true) → (t || u) ≡ true → (v || w) ≡ true
over_union {t} {u} {v} {w} f g = either_in t u (λ m. left_in v w (f m)) (λ m. right_in v w (g m))

over_meet : {t u v w : Bool} → (t ≡ true → v ≡ true) → (u ≡ true → w ≡ true) → (t && u) ≡ true → (v && w) ≡ true
over_meet {t} {u} {v} {w} f g m = both_in v w (f (first_in t u m)) (g (second_in t u m))

module _ {s : Survey} where
  pub eligible_none : Eligible s no_group
  eligible_none = record { closed = record { back = λ k l m. m } }

  pub eligible_all : Eligible s all_groups
  eligible_all = record { closed = record { back = λ k l m. refl } }

  pub eligible_union : {A B : Set} → Eligible s A → Eligible s B → Eligible s (union A B)
  eligible_union a b = record { closed = record { back = λ k l. over_union (a.closed.back k l) (b.closed.back k l) } }

  pub eligible_meet : {A B : Set} → Eligible s A → Eligible s B → Eligible s (meet A B)
  eligible_meet a b = record { closed = record { back = λ k l. over_meet (a.closed.back k l) (b.closed.back k l) } }

  pub union_left : (A B : Set) → Contains s (union A B) A
  union_left A B = record { has = λ g l m. left_in (A g) (B g) m }

  pub union_right : (A B : Set) → Contains s (union A B) B
  union_right A B = record { has = λ g l m. right_in (A g) (B g) m }

  -- each of two sets lies in a third, and so does their union
  pub union_within : {A B C : Set} → Contains s C A → Contains s C B → Contains s C (union A B)
  union_within {A} {B} a b = record { has = λ g l. either_in (A g) (B g) (a.has g l) (b.has g l) }

  pub contains_trans : {A B C : Set} → Contains s A B → Contains s B C → Contains s A C
  contains_trans a b = record { has = λ g l m. a.has g l (b.has g l m) }

-- No group has anything dead (refusal 12) exactly where there is no candidate.
pub no_dead_no_candidate : {s : Survey} → ((g : ℕ) → g < s.n → dead_of s g ≡ 0) ↔ ((S : Set) → Candidate s S → ⊥)
no_dead_no_candidate {s} = (
  λ z S c. omega (arith, c.dead, total_zero s (dead_of s) S (λ g l m. z g l)),
  λ none g l. all (λ p. none all_groups (record { eligible = eligible_all; dead = p })) g l,
)
  where
    all : (0 < D s all_groups → ⊥) → (g : ℕ) → g < s.n → dead_of s g ≡ 0
    all n g l = omega (arith, member_le s (dead_of s) all_groups g l refl)
