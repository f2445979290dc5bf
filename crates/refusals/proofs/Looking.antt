-- What a test or a search tells, and how a chain of looks puts its answer together: at each row it stops, with that row's refusal, or goes past it.
-- Whatever looks for faults cites these, a line a need.
use Prim.Native.Nat.{ℕ, ◌≤◌, ◌<◌}
use mathlib.Core.Path.{◌≡◌, ap, subst}
use mathlib.Core.Bool.{Bool, true, false}
use mathlib.Core.List.{List, ◌∷◌}
use native.Mathlib.Omega.{arith}
use Rattle.std.specs.Prelude.{Option, None, Some, MatchOption, Result}
use Rattle.std.specs.Result.{IsErrAnd}
use Rattle.std.proofs.lemmas.Result.{err_from_is_err_and}
use Rattle.survey.specs.declared.answers.Refusal.{Refusal}
use Rattle.survey.specs.Refusals.{refused, Fault, whole, among, Clear, Lowest, refusal, Answers}
use Rattle.survey.specs.Answers.{verdict_of}
use Rattle.survey.proofs.Verdicts.{given}
use Rattle.refusals.specs.Refused.{refusal_whole}
use Rattle.refusals.specs.Searches.{Finds, Tells}

-- ---- tests

-- a test of the same in other words
pub tells_as : {P Q : Type 0} (r : Bool) → (P → Q) → (Q → P) → Tells P r → Tells Q r
tells_as true to back t = to t
tells_as false to back t = λ q. t (back q)

-- what a test told
module _ {P : Type 0} (r : Bool) where
  pub told : r ≡ true → Tells P r → P
  told e t = rw e at t

  pub told_not : r ≡ false → Tells P r → P → ⊥
  told_not e t = rw e at t

-- ---- searches

-- Where there is but one place, a test does for a search.
module _ (number : ℕ) (P : ℕ → Type 0) where
  pub only_lowest : P 0 → Lowest (among number 1 P) 0
  only_lowest p = record { below = omega arith; fault = p; first = λ j l. absurd (omega arith) }

  pub only_clear : (P 0 → ⊥) → Clear (among number 1 P)
  only_clear d = record { none = λ k l p. d (subst P (first k l) p) }
    where
      first : (k : ℕ) → k < 1 → k ≡ 0
      first k l = omega arith

-- ---- chains

pub stop_at : {f : Fault} {fs : List Fault} {k : ℕ} {r : Refusal} → Lowest f k → r ≡ refusal f k → Answers (f ∷ fs) (refused r)
stop_at {k = k} low e = given (record { lowest_place = k; lowest = low; is = ap refused e })

-- a row whose place is "nothing"
pub whole_clear : {m : ℕ} {P : Type 0} → (P → ⊥) → Clear (whole m P)
whole_clear d = record { none = λ k l p. d p }

whole_lowest : {m : ℕ} {P : Type 0} → P → Lowest (whole m P) 0
whole_lowest p = record { below = omega arith; fault = p; first = λ j l. absurd (omega arith) }

pub stop_whole : {m : ℕ} {P : Type 0} {fs : List Fault} {r : Refusal} → P → r ≡ refusal_whole m → Answers (whole m P ∷ fs) (refused r)
stop_whole p e = stop_at (whole_lowest p) e

-- What a range's `find` says of the numbers of the range, said of a fault's places.
pub first_finds : (f : Fault) {n : ℕ} (r : Option ℕ) → n ≡ f.places
    → MatchOption r ((k : ℕ) → 0 ≤ k → k < n → f.at k → ⊥) (λ k. (0 ≤ k) × (k < n) × f.at k × ((j : ℕ) → 0 ≤ j → j < k → f.at j → ⊥))
    → Finds f r
first_finds f (Some k) e h = record { below = omega (arith, h.1, e); fault = h.2; first = λ j l. h.3 j (omega arith) l }
first_finds f None e h = record { none = λ k l. h k (omega arith) (omega arith) }

-- What a `?` passes on is refused as it was.
pub passed_on : {A : Type 0} {fs : List Fault} {x : Refusal} (r : Result A Refusal) → IsErrAnd r (λ y. y ≡ x) → Answers fs (refused x) → Answers fs (verdict_of r)
passed_on r is a = let p = err_from_is_err_and r is in rw (p.1, p.2) a
