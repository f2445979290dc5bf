-- Two answers that a search's or a test's promise allows are equal.
use mathlib.Core.Path.{◌≡◌, refl, ap}
use mathlib.Core.Bool.{Bool, true, false}
use Prim.Native.Nat.{ℕ}
use Rattle.survey.specs.Refusals.{Fault}
use Rattle.survey.proofs.Verdicts.{lowest_one}
use Rattle.std.specs.Prelude.{Option, None, Some}
use Rattle.refusals.specs.Searches.{Finds, Tells}

pub finds_one : (f : Fault) (r r' : Option ℕ) → Finds f r → Finds f r' → r ≡ r'
finds_one f (Some j) (Some k) a b = ap (λ (x : ℕ). Some x) (lowest_one a b)
finds_one f (Some j) None a b = absurd (b.none j a.below a.fault)
finds_one f None (Some k) a b = absurd (a.none k b.below b.fault)
finds_one f None None a b = refl

pub tells_one : (P : Type 0) (r r' : Bool) → Tells P r → Tells P r' → r ≡ r'
tells_one P true true p q = refl
tells_one P true false p q = absurd (q p)
tells_one P false true p q = absurd (p q)
tells_one P false false p q = refl
