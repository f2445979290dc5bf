use Prim.Native.Nat.{◌<◌}
use native.Mathlib.Omega.{arith}
use Rattle.std.proofs.lemmas.List.{get_or-take, length-take}
use Rattle.flow.proofs.GrowLaws.{others_more}
use Rattle.flow.proofs.drains.others_of.Goals as goal

pub loop-g-preserved : goal.loop-g-preserved
loop-g-preserved c =
    let before : c.loop-g.g-index < c.args.started = omega (arith, c.loop-g-test.true, length-take c.args.started c.args.order.now) in
    rw (c.cut.ensures, get_or-take c.args.started c.args.order.now c.loop-g.g-index 0 before)
    (others_more (c.requires.group c.loop-g.g-index before) (omega arith) (λ j h. c.requires.group j (omega arith)) c.loop-g.invariant)
