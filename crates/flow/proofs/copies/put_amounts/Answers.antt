use native.Mathlib.Omega.{arith}
use Rattle.flow.proofs.CopyLaws.{put_more}
use Rattle.flow.proofs.copies.put_amounts.Goals as goal

pub loop-k-preserved : goal.loop-k-preserved
loop-k-preserved c = put_more (omega arith) (omega (arith, c.type_inv.x c.loop-k.k)) c.put_amount.ensures c.loop-k.invariant
