-- How a row is said in other words.
use Prim.Native.Nat.{ℕ, ◌<◌}
use native.Mathlib.Omega.{arith}
use Rattle.survey.specs.Refusals.{among}
use Rattle.std.specs.Prelude.{Option, None, Some}
use Rattle.refusals.specs.Searches.{Finds}

-- The same places are at fault, so the same place is the lowest.
pub finds_same :
    (number places : ℕ) {P Q : ℕ → Type 0} → ((k : ℕ) → k < places → P k → Q k) → ((k : ℕ) → k < places → Q k → P k) → (r : Option ℕ)
    → Finds (among number places P) r → Finds (among number places Q) r
finds_same number places f g (Some k) x =
    record { below = x.below; fault = f k x.below x.fault; first = λ j l q. x.first j l (g j (omega (arith, x.below)) q) }
finds_same number places f g None x = record { none = λ k l q. x.none k l (g k l q) }
