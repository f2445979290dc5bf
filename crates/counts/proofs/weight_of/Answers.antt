-- `counts::weight_of` meets its contract. Two cross products: the dead count with L, the cost with D. Assumes nothing.
use native.Mathlib.Nat.{mul_comm}
use Rattle.std.proofs.Common.{arith}
use Rattle.counts.proofs.weight_of.Goals as goal

pub returns : goal.returns
returns c = record { plus = grind (arith, mul_comm); minus = grind (arith, mul_comm) }
