-- `bits::lone` meets its contract. The shift is below 64, so nothing is shifted out. Assumes nothing.
use Prim.Native.Nat.{◌^◌}
use mathlib.Core.Path.{◌∙◌}
use native.Mathlib.Omega.{arith}
use native.Mathlib.Nat.{one-mul}
use lib.Pow.{shl_exact}
use Rattle.bits.proofs.lone.Goals as goal

pub returns : goal.returns
returns c = shl_exact {a = 1} 1 c.args.i 64 (omega arith) (omega arith) ∙ one-mul (2 ^ c.args.i)
