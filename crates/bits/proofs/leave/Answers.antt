-- `bits::leave` meets its contract. The digit alone is the power that the definition names. Assumes nothing.
use native.Mathlib.Omega.{arith}
use Rattle.bits.proofs.BitLaws.{kept_without}
use Rattle.bits.proofs.leave.Goals as goal

pub returns : goal.returns
returns c = grind (arith, kept_without)
