-- Which verdict is given: there is only one, and where the order of looking ascends it has the lowest number that there is a fault for
-- (Specification 10).
use Prim.Native.Nat.{ℕ, ◌≤◌, ◌<◌}
use native.Mathlib.Nat.{le_refl}
use native.Mathlib.Decide.{dec_lt}
use native.Mathlib.Omega.{arith}
use mathlib.Core.Path.{◌≡◌, refl, sym, ap, subst, ◌∙◌}
use mathlib.Core.Bool.{Bool, true, ◌&&◌}
use mathlib.Core.Logic.{◌⊎◌, inl, inr, ⊎_elim}
use mathlib.Core.List.Memᴰ
use mathlib.Core.List.{List, [], ◌∷◌, ◌++◌, Memᴰ}
use lib.Dec.{leb}
use borrow.Author.Tests.{leb-true, le-leb}
use Rattle.survey.proofs.Eligible.{first_in, second_in}
use Rattle.survey.specs.declared.answers.Refusal.{Refusal}
use Rattle.survey.specs.Refusals.{Verdict, fine, refused, Fault, Clear, Lowest, refusal, Given, First, Answers, AllClear, InOrder, none, here, later}

-- How a chain of looks puts its answer together: it stops at a row, or goes past it.
module _ {f : Fault} {fs : List Fault} {v : Verdict} where
  pub given : Given f v → Answers (f ∷ fs) v
  unfolding First
  given g = record { first = inl g }

  pub past : Clear f → Answers fs v → Answers (f ∷ fs) v
  unfolding First
  past c a = record { first = inr (c, a.first) }

pub none_left : Answers [] fine
unfolding First
none_left = record { first = refl }

fine_not_refused : {v : Verdict} {r : Refusal} → v ≡ fine → v ≡ refused r → ⊥
fine_not_refused p q = let z : ◌≡◌ {A = ℕ} 0 1 = cc in omega arith

clear_not_given : {f : Fault} {v : Verdict} → Clear f → Given f v → ⊥
clear_not_given c g = c.none g.lowest_place g.lowest.below g.lowest.fault

-- To have none of the faults and not to be refused are the same.
pub fine_clear : (fs : List Fault) → Answers fs fine → AllClear fs
unfolding First AllClear
fine_clear [] a = tt
fine_clear (f ∷ fs) a = at a.first (λ r. fine_clear fs (record { first = r }))
  where
    at : Given f fine ⊎ (Clear f × First fs fine) → (First fs fine → AllClear fs) → Clear f × AllClear fs
    at (inl g) go = absurd (fine_not_refused refl g.is)
    at (inr r) go = (r.0, go r.1)

pub clear_fine : (fs : List Fault) → AllClear fs → Answers fs fine
unfolding AllClear
clear_fine [] c = none_left
clear_fine (f ∷ fs) c = past c.0 (clear_fine fs c.1)

-- Of two lists of faults in a row.
pub clear_parts : (fs gs : List Fault) → AllClear (fs ++ gs) → AllClear fs × AllClear gs
unfolding AllClear
clear_parts [] gs c = (tt, c)
clear_parts (f ∷ fs) gs c = let rest = clear_parts fs gs c.1 in ((c.0, rest.0), rest.1)

pub clear_both : (fs gs : List Fault) → AllClear fs → AllClear gs → AllClear (fs ++ gs)
unfolding AllClear
clear_both [] gs c d = d
clear_both (f ∷ fs) gs c d = (c.0, clear_both fs gs c.1 d)

-- There is one lowest place.
pub lowest_one : {f : Fault} {j k : ℕ} → Lowest f j → Lowest f k → j ≡ k
lowest_one {f} {j} {k} a b = go (dec_lt j k) (dec_lt k j)
  where
    go : Dec (j < k) → Dec (k < j) → j ≡ k
    go (yes l) d = absurd (search (a.first k, b.first j, a.fault, b.fault))
    go (no m) (yes l) = absurd (search (a.first k, b.first j, a.fault, b.fault))
    go (no m) (no l) = omega arith

given_one : {f : Fault} {v v' : Verdict} → Given f v → Given f v' → v ≡ v'
given_one {f} a b = a.is ∙ ap (λ (k : ℕ). refused (refusal f k)) (lowest_one a.lowest b.lowest) ∙ sym b.is

-- Two verdicts that are allowed on a call are equal, whatever the faults and their order.
pub answers_one : (fs : List Fault) {v v' : Verdict} → Answers fs v → Answers fs v' → v ≡ v'
unfolding First
answers_one [] a b = a.first ∙ sym b.first
answers_one (f ∷ fs) {v} {v'} a b = at a.first b.first (λ x y. answers_one fs (record { first = x }) (record { first = y }))
  where
    at : Given f v ⊎ (Clear f × First fs v) → Given f v' ⊎ (Clear f × First fs v') → (First fs v → First fs v' → v ≡ v') → v ≡ v'
    at (inl x) (inl y) go = given_one x y
    at (inl x) (inr y) go = absurd (clear_not_given y.0 x)
    at (inr x) (inl y) go = absurd (clear_not_given x.0 y)
    at (inr x) (inr y) go = go x.1 y.1

-- Where nothing is at fault, nothing is refused.
pub none_refused : (fs : List Fault) {v : Verdict} {x : Refusal} → AllClear fs → Answers fs v → v ≡ refused x → ⊥
none_refused fs c a e = fine_not_refused (answers_one fs a (clear_fine fs c)) e

-- A part looks at its own faults first, and at the others' only when it finds none.
pub early : (fs gs : List Fault) {r : Refusal} → Answers fs (refused r) → Answers (fs ++ gs) (refused r)
unfolding First
early [] gs a = absurd (fine_not_refused a.first refl)
early (f ∷ fs) gs {r} a = at a.first (λ x. early fs gs (record { first = x }))
  where
    at : Given f (refused r) ⊎ (Clear f × First fs (refused r)) → (First fs (refused r) → Answers (fs ++ gs) (refused r)) → Answers (f ∷ (fs ++ gs)) (refused r)
    at (inl g) go = given g
    at (inr x) go = past x.0 (go x.1)

pub afterwards : (fs : List Fault) {gs : List Fault} {v : Verdict} → AllClear fs → Answers gs v → Answers (fs ++ gs) v
unfolding AllClear
afterwards [] c a = a
afterwards (f ∷ fs) c a = past c.0 (afterwards fs c.1 a)

-- Numbers from b on, and numbers none of which is below one before it.
abbrev all_from : ℕ → List ℕ → Bool
all_from b [] = true
all_from b (m ∷ ms) = leb b m && all_from b ms

abbrev pub ascending : List ℕ → Bool
ascending [] = true
ascending (m ∷ ms) = all_from m ms && ascending ms

-- the faults of an order of numbers from b on have numbers from b on
number_from : {b : ℕ} {order : List ℕ} {fs : List Fault} → all_from b order ≡ true → InOrder order fs → (f : Fault) → Memᴰ f fs → b ≤ f.number
number_from h none f m = absurd (Memᴰ.not-nil m)
number_from {b} h (here {m = k} {order = order} {f = g} {fs = fs} e i) f m =
    ⊎_elim (λ q. subst (λ (x : ℕ). b ≤ x) (sym (ap (λ (u : Fault). u.number) q ∙ e)) (leb-true b k (first_in (leb b k) (all_from b order) h))) (λ q. number_from h i f q)
    (Memᴰ.cases_cons m)
number_from {b} h (later {m = k} {order = order} i) f m = number_from (second_in (leb b k) (all_from b order) h) i f m

-- Specification 10.2: where the order ascends, the first fault in it has the lowest number of those that are there.
pub lowest_number : {order : List ℕ} {fs : List Fault} {r : Refusal} → ascending order ≡ true → InOrder order fs → Answers fs (refused r) → (f : Fault) → Memᴰ f fs → (k : ℕ)
    → k < f.places → f.at k → r.number ≤ f.number
unfolding First
lowest_number h none a f m k l b = absurd (Memᴰ.not-nil m)
lowest_number {r = r} h (here {m = x} {order = order} {f = g} {fs = fs} e i) a f m k l b =
    at a.first (Memᴰ.cases_cons m) (λ c q. lowest_number h i (record { first = c }) f q k l b)
  where
    from : x ≤ f.number
    from = number_from (rw (le-leb x x (le_refl x)) (first_in (all_from x order) (ascending order) h)) (here e i) f m

    number_of : Given g (refused r) → r.number ≡ g.number
    number_of v = cc v.is

    at : Given g (refused r) ⊎ (Clear g × First fs (refused r)) → (f ≡ g) ⊎ Memᴰ f fs → (First fs (refused r) → Memᴰ f fs → r.number ≤ f.number) → r.number ≤ f.number
    at (inl v) q go = subst (λ (y : ℕ). y ≤ f.number) (sym (number_of v ∙ e)) from
    at (inr v) (inl q) go = absurd (v.0.none k (subst (λ (u : Fault). k < u.places) q l) (subst (λ (u : Fault). u.at k) q b))
    at (inr v) (inr q) go = go v.1 q
lowest_number h (later {m = x} {order = order} i) a f m k l b = lowest_number (second_in (all_from x order) (ascending order) h) i a f m k l b
