-- `bits::lowest` meets its contract. No count of zeros is above 64. Assumes nothing.
use native.Mathlib.Omega.{arith}
use native.Mathlib.Nat.{lt_of_le_of_lt}
use lib.Count.{trailing_le}
use Rattle.bits.proofs.lowest.Goals as goal

pub overflow_cast-result : goal.overflow_cast-result
overflow_cast-result c = record { fits = lt_of_le_of_lt (trailing_le 64 _) (omega arith) }
