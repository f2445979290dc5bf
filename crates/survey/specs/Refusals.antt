-- Specification 10, "Refusals": what a refusal is and which one is given, for every part alike.
use Rattle.std.specs.Prelude.{ℕ, ◌<◌, ◌≡◌, ◌⊎◌, Bool, cond, ◌&&◌, ◌||◌, List, [], ◌∷◌, leb}
use Rattle.survey.specs.declared.answers.Place.{Place}
use Rattle.survey.specs.declared.answers.Place.TheVariants.{Nothing, Block, Group, Link}
use Rattle.survey.specs.declared.answers.Refusal.{Refusal}

-- 10.1: what the table has to say of a call, that nothing is wrong, or a refusal with its number and its place
pub data Verdict : Type 0 where
  fine : Verdict
  refused : Refusal → Verdict

-- 11.1: lo ≤ x ≤ hi, for ranges of numbers
abbrev pub within : ℕ → ℕ → ℕ → Bool
within lo hi x = leb lo x && leb x hi

-- 10.1: which sort of place belongs to which number, as the table of 11.1 has it. k is the number of the block, group or link.
abbrev pub place_of : ℕ → ℕ → Place
place_of number k =
    cond (within 3 4 number || within 6 7 number) (Block k)
    (cond (within 8 8 number || (within 13 13 number || within 17 18 number)) (Group k)
    (cond (within 9 10 number || within 14 15 number) (Link k) Nothing))

-- 10.1: a fault, which is a row of that table. It is looked for at each of some places, and each place is at fault or not.
pub record Fault : Type 1 where
  pub number : ℕ
  pub place : ℕ → Place
  pub places : ℕ
  pub at : ℕ → Type 0

-- 10.1: a row of which the place is nothing in particular
abbrev pub whole : ℕ → Type 0 → Fault
whole number P = record { number = number; place = λ k. Nothing; places = 1; at = λ k. P }

-- 10.1: a row whose place is the block, group or link at fault, one of so many
abbrev pub among : ℕ → ℕ → (ℕ → Type 0) → Fault
among number places P = record { number = number; place = place_of number; places = places; at = P }

-- 10.2: the fault is absent, since no place has it
pub record Clear (f : Fault) : Type 0 where
  pub none : (k : ℕ) → k < f.places → f.at k → ⊥

-- 10.3: where several places have the fault, k is the lowest of them
pub record Lowest (f : Fault) (k : ℕ) : Type 0 where
  pub below : k < f.places
  pub fault : f.at k
  pub first : (j : ℕ) → j < k → f.at j → ⊥

-- 10.1: the refusal for that fault at place k, its number and its place
abbrev pub refusal : Fault → ℕ → Refusal
refusal f k = record { number = f.number; place = f.place k }

-- 10.3: the fault is present, and the verdict is its number with its lowest place.
pub record Given (f : Fault) (v : Verdict) : Type 0 where
  pub lowest_place : ℕ
  pub lowest : Lowest f lowest_place
  pub is : v ≡ refused (refusal f lowest_place)

-- 10.2: a fault is looked for only after those before it were found absent, and the first one present ends the looking.
unfoldable pub First : List Fault → Verdict → Type 0
First [] v = v ≡ fine
First (f ∷ fs) v = Given f v ⊎ (Clear f × First fs v)

-- 10.2: the verdict on a call, where these faults are looked for in this order. Reader, chooser, checker and all others answer by it.
pub record Answers (fs : List Fault) (v : Verdict) : Type 0 where
  pub first : First fs v

-- 10.2: all of the faults are absent
unfoldable pub AllClear : List Fault → Type 0
AllClear [] = Unit {0}
AllClear (f ∷ fs) = Clear f × AllClear fs

-- 10.2: faults are looked for in the order of their numbers.
abbrev pub looking_order : List ℕ
looking_order = 1 ∷ 2 ∷ 3 ∷ 4 ∷ 5 ∷ 6 ∷ 7 ∷ 8 ∷ 9 ∷ 10 ∷ 11 ∷ 12 ∷ 13 ∷ 14 ∷ 15 ∷ 16 ∷ 17 ∷ 18 ∷ []

-- 10.2: the faults stand in that order; a number may have several rows and may have none
pub data InOrder : List ℕ → List Fault → Type 1 where
  none : {order : List ℕ} → InOrder order []
  here : {m : ℕ} {order : List ℕ} {f : Fault} {fs : List Fault} → f.number ≡ m → InOrder (m ∷ order) fs → InOrder (m ∷ order) (f ∷ fs)
  later : {m : ℕ} {order : List ℕ} {fs : List Fault} → InOrder order fs → InOrder (m ∷ order) fs
