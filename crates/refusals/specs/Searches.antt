-- What a search for a fault and what a test promise.
use Rattle.std.specs.Prelude.{ℕ, Bool, true, false, Option, None, Some}
use Rattle.survey.specs.Refusals.{Fault, Lowest, Clear}

-- the lowest place at fault, or that no place is
abbrev pub Finds : Fault → Option ℕ → Type 0
Finds f (Some k) = Lowest f k
Finds f None = Clear f

-- whether it is so
abbrev pub Tells : Type 0 → Bool → Type 0
Tells P true = P
Tells P false = P → ⊥
