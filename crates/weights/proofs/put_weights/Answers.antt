use Rattle.weights.proofs.PutLaws.{put_more, weight_read}
use native.Mathlib.Omega.{arith}
use Rattle.weights.proofs.put_weights.Goals as goal

pub loop-g-preserved : goal.loop-g-preserved
loop-g-preserved c =
    let read = weight_read c.args.lists.groups.now c.loop-g-test.true c.group.ensures c.weight_of-weight.ensures in
    record { pluses = put_more (omega arith) read.plus c.loop-g.invariant.pluses; minuses = put_more (omega arith) read.minus c.loop-g.invariant.minuses }
