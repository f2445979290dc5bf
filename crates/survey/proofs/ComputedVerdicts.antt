-- The verdict of a table of faults, computed from a test for each row, and the test that two verdicts are one.
use Prim.Native.Nat.{ℕ, zero, suc, ◌<◌}
use mathlib.Core.Path.{◌≡◌, refl, sym, ◌∙◌, ap, ap₂}
use mathlib.Core.Bool.{Bool, true, false, ◌&&◌}
use mathlib.Core.List.{List, [], ◌∷◌, ◌++◌}
use mathlib.Core.Logic.{inl, inr, ⊎_elim}
use mathlib.Core.Option.{Option, some, none}
use native.Mathlib.Omega.{arith}
use lib.Dec.{eqb}
use Rattle.survey.specs.declared.answers.Place.{Place}
use Rattle.survey.specs.declared.answers.Place.TheVariants.{Nothing, Block, Group, Link}
use Rattle.survey.specs.declared.answers.Refusal.{Refusal}
use Rattle.survey.specs.Answers.{sort_number, place_number}
use Rattle.survey.specs.Refusals.{Verdict, fine, refused, Fault, refusal, First, Answers}
use Rattle.survey.proofs.SumOrder.{before_or_last}
use Rattle.survey.proofs.Deciding.{Decides, told_yes, told_no, told_iff, both, equal}
use Rattle.survey.proofs.Verdicts.{answers_one}

-- ---- the lowest place that a test finds

abbrev or_here : ℕ → Bool → Option ℕ → Option ℕ
or_here n b (some k) = some k
or_here n true none = some n
or_here n false none = none

unfoldable pub lowest_below : ℕ → (ℕ → Bool) → Option ℕ
lowest_below zero t = none
lowest_below (suc n) t = let last = t n in or_here n last (lowest_below n t)

data Looked (n : ℕ) (t : ℕ → Bool) : Option ℕ → Type 0 where
  lowest : {k : ℕ} → k < n → t k ≡ true → ((j : ℕ) → j < k → t j ≡ false) → Looked n t (some k)
  nowhere : ((j : ℕ) → j < n → t j ≡ false) → Looked n t none

looked : (n : ℕ) (t : ℕ → Bool) → Looked n t (lowest_below n t)
unfolding lowest_below
looked zero t = nowhere (λ j l. absurd (omega arith))
looked (suc n) t = go (t n) refl (looked n t)
  where
    go : {o : Option ℕ} (b : Bool) → t n ≡ b → Looked n t o → Looked (suc n) t (or_here n b o)
    go b e (lowest {k = k} l h f) = lowest {k = k} (omega arith) h f
    go true e (nowhere f) = lowest {k = n} (omega arith) e f
    go false e (nowhere f) = nowhere (λ j l. ⊎_elim (f j) (λ z. rw z e) (before_or_last n j l))

-- ---- the verdict

abbrev verdict_at : Fault → Option ℕ → Verdict → Verdict
verdict_at f (some k) later = refused (refusal f k)
verdict_at f none later = later

-- of the faults, each with its test
unfoldable pub told_verdict : List Fault → List (ℕ → Bool) → Verdict
told_verdict [] ts = fine
told_verdict (f ∷ fs) [] = fine
told_verdict (f ∷ fs) (t ∷ ts) = let later = told_verdict fs ts in verdict_at f (lowest_below f.places t) later

-- Each test decides, at each place, whether that place is at fault.
pub data RowsTold : List Fault → List (ℕ → Bool) → Type 1 where
  no_row : RowsTold [] []
  row : {f : Fault} {t : ℕ → Bool} {fs : List Fault} {ts : List (ℕ → Bool)}
      → ((k : ℕ) → k < f.places → Decides (f.at k) (t k)) → RowsTold fs ts → RowsTold (f ∷ fs) (t ∷ ts)

pub told_append : {fs gs : List Fault} {ts us : List (ℕ → Bool)} → RowsTold fs ts → RowsTold gs us → RowsTold (fs ++ gs) (ts ++ us)
told_append no_row y = y
told_append (row h x) y = row h (told_append x y)

verdict_first : {fs : List Fault} {ts : List (ℕ → Bool)} → RowsTold fs ts → First fs (told_verdict fs ts)
unfolding First told_verdict
verdict_first no_row = refl
verdict_first (row {f = f} {t = t} {fs = fs} {ts = ts} h r) = go (looked f.places t) (verdict_first r)
  where
    go : {o : Option ℕ} → Looked f.places t o → First fs (told_verdict fs ts) → First (f ∷ fs) (verdict_at f o (told_verdict fs ts))
    go (lowest {k = k} l e b) later =
        inl (record { lowest_place = k; lowest = record { below = l; fault = (h k l).so e; first = λ j m. (h j (omega arith)).not_so (b j m) }; is = refl })
    go (nowhere b) later = inr (record { none = λ k l. (h k l).not_so (b k l) }, later)

pub verdict_answers : {fs : List Fault} {ts : List (ℕ → Bool)} → RowsTold fs ts → Answers fs (told_verdict fs ts)
verdict_answers x = record { first = verdict_first x }

-- ---- two verdicts

-- the place of that sort and number
abbrev place_back : ℕ → ℕ → Place
place_back zero k = Nothing
place_back (suc zero) k = Block k
place_back (suc (suc zero)) k = Group k
place_back (suc (suc (suc m))) k = Link k

place_back_lem : (p : Place) → place_back (sort_number p) (place_number p) ≡ p
place_back_lem Nothing = refl
place_back_lem (Block k) = refl
place_back_lem (Group k) = refl
place_back_lem (Link k) = refl

abbrev place_test : Place → Place → Bool
place_test p q = eqb (sort_number p) (sort_number q) && eqb (place_number p) (place_number q)

place_told : (p q : Place) → Decides (p ≡ q) (place_test p q)
place_told p q =
    told_iff (λ z. sym (place_back_lem p) ∙ ap₂ place_back z.0 z.1 ∙ place_back_lem q) (λ e. (ap sort_number e, ap place_number e))
    (both (equal (sort_number p) (sort_number q)) (λ z. equal (place_number p) (place_number q)))

unfoldable pub verdict_test : Verdict → Verdict → Bool
verdict_test fine fine = true
verdict_test fine (refused q) = false
verdict_test (refused r) fine = false
verdict_test (refused r) (refused q) = eqb r.number q.number && place_test r.place q.place

pub verdict_told : (v w : Verdict) → Decides (v ≡ w) (verdict_test v w)
unfolding verdict_test
verdict_told fine fine = told_yes refl
verdict_told fine (refused q) = told_no (λ e. let z : ◌≡◌ {A = ℕ} 0 1 = cc in omega arith)
verdict_told (refused r) fine = told_no (λ e. let z : ◌≡◌ {A = ℕ} 0 1 = cc in omega arith)
verdict_told (refused r) (refused q) =
    told_iff (λ z i. refused (record { number = z.0 i; place = z.1 i }))
    (λ e. let x : r ≡ q = cc in (ap (λ (y : Refusal). y.number) x, ap (λ (y : Refusal). y.place) x))
    (both (equal r.number q.number) (λ z. place_told r.place q.place))

-- A verdict is the table's answer exactly when it is the computed one.
pub answers_told : {fs : List Fault} {ts : List (ℕ → Bool)} → RowsTold fs ts → (v : Verdict) → Decides (Answers fs v) (verdict_test (told_verdict fs ts) v)
answers_told {fs} {ts} x v =
    told_iff (λ e. rw (← e) (verdict_answers x)) (λ a. answers_one fs (verdict_answers x) a) (verdict_told (told_verdict fs ts) v)
