-- How large a refusal's number and place can be, so that one number of 64 bits holds them, and that no refusal's number is 0.
use Prim.Native.Nat.{ℕ, ◌≤◌, ◌<◌, zero-le}
use native.Mathlib.Nat.{le_refl}
use native.Mathlib.Omega.{arith}
use mathlib.Core.Path.{◌≡◌, sym, subst}
use mathlib.Core.Bool.{Bool, true, false, cond, ◌||◌}
use mathlib.Core.Logic.{◌⊎◌, inl, inr}
use mathlib.Core.List.{List, [], ◌∷◌}
use Rattle.survey.specs.declared.answers.Place.TheVariants.{Nothing, Block, Group, Link}
use Rattle.survey.specs.declared.answers.Refusal.{Refusal}
use Rattle.survey.specs.Answers.{place_number}
use Rattle.survey.specs.Refusals.{Verdict, refused, Fault, Clear, Given, First, Answers, refusal, place_of, within, whole, among}

-- A look at the first of some faults: it is the answer, or it is not there and the answer is the others'.
pub look : (f : Fault) (fs : List Fault) {v : Verdict} → Answers (f ∷ fs) v → Given f v ⊎ (Clear f × Answers fs v)
unfolding First
look f fs {v} a = at a.first
  where
    at : Given f v ⊎ (Clear f × First fs v) → Given f v ⊎ (Clear f × Answers fs v)
    at (inl g) = inl g
    at (inr c) = inr (c.0, record { first = c.1 })

-- past a fault that is not there
pub look_on : (f : Fault) (fs : List Fault) {v : Verdict} → Clear f → Answers (f ∷ fs) v → Answers fs v
look_on f fs {v} c a = at (look f fs a)
  where
    at : Given f v ⊎ (Clear f × Answers fs v) → Answers fs v
    at (inl g) = absurd (c.none g.lowest_place g.lowest.below g.lowest.fault)
    at (inr r) = r.1

-- a refusal whose number fits a byte and is not 0, and whose place is below b
pub record SmallBy (b : ℕ) (r : Refusal) : Type 0 where
  pub number : r.number < 256
  pub above : 0 < r.number
  pub place : place_number r.place < b

-- a fault with at most b places
pub record FewPlaces (b : ℕ) (f : Fault) : Type 0 where
  pub number : f.number < 256
  pub above : 0 < f.number
  pub places : f.places ≤ b
  pub place : (k : ℕ) → place_number (f.place k) ≤ k

unfoldable pub AllFew : ℕ → List Fault → Type 0
AllFew b [] = Unit {0}
AllFew b (f ∷ fs) = FewPlaces b f × AllFew b fs

pub given_small : {b : ℕ} {f : Fault} {r : Refusal} → FewPlaces b f → Given f (refused r) → SmallBy b r
given_small {b} {f} {r} w g =
    subst (λ (x : Refusal). SmallBy b x) (sym same)
    (record { number = w.number; above = w.above; place = omega (arith, w.place g.lowest_place, g.lowest.below, w.places) })
  where
    same : r ≡ refusal f g.lowest_place
    same = cc g.is

pub refused_small : {b : ℕ} (fs : List Fault) {r : Refusal} → AllFew b fs → Answers fs (refused r) → SmallBy b r
unfolding First AllFew
refused_small [] w a = absurd (let z : ◌≡◌ {A = ℕ} 0 1 = cc a.first in omega arith)
refused_small {b} (f ∷ fs) {r} w a = at (look f fs a) (λ x. refused_small fs w.1 x)
  where
    at : Given f (refused r) ⊎ (Clear f × Answers fs (refused r)) → (Answers fs (refused r) → SmallBy b r) → SmallBy b r
    at (inl g) go = given_small w.0 g
    at (inr c) go = go c.1

pub few_whole : {b : ℕ} (number : ℕ) (P : Type 0) → (0 < number) × (number < 256) → 1 ≤ b → FewPlaces b (whole number P)
few_whole number P h l = record { number = h.1; above = h.0; places = l; place = λ k. zero-le }

place_at_most : (number k : ℕ) → place_number (place_of number k) ≤ k
place_at_most number k =
    at (within 3 4 number || within 6 7 number) (within 8 8 number || (within 13 13 number || within 17 18 number)) (within 9 10 number || within 14 15 number)
  where
    at : (x y z : Bool) → place_number (cond x (Block k) (cond y (Group k) (cond z (Link k) Nothing))) ≤ k
    at true y z = le_refl k
    at false true z = le_refl k
    at false false true = le_refl k
    at false false false = zero-le

pub few_among : {b : ℕ} (number places : ℕ) (P : ℕ → Type 0) → (0 < number) × (number < 256) → places ≤ b → FewPlaces b (among number places P)
few_among number places P h l = record { number = h.1; above = h.0; places = l; place = place_at_most number }
