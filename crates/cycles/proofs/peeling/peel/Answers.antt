use Rattle.cycles.proofs.PeelEnd.{peels_at}
use Rattle.cycles.proofs.Into.{indexed_kept}
use Rattle.cycles.proofs.Peels.{ready_below}
use Rattle.cycles.proofs.PeelSteps.{peel_one}
use Rattle.cycles.specs.Tallies.{count_of}
use Prim.Native.Nat.{◌+◌, ◌-◌}
use native.Mathlib.Omega.{arith}
use mathlib.Core.Path.{refl}
use Rattle.cycles.proofs.peeling.peel.Goals as goal

pub offset_bounds-w-g : goal.offset_bounds-w-g
offset_bounds-w-g c = omega (arith, (ready_below c.loop-top.invariant.0 (c.loop-top.top - 1) (omega arith)).0, c.args.links.hold.groups)

pub bounds-w-g : goal.bounds-w-g
bounds-w-g c = omega (arith, (ready_below c.loop-top.invariant.0 (c.loop-top.top - 1) (omega arith)).0, c.args.links.hold.groups)

pub walk-top-requires : goal.walk-top-requires
unfolding count_of
walk-top-requires c =
    let turn = c.loop-top in
    let ready = ready_below turn.invariant.0 (turn.top - 1) (omega arith) in
    let one = peel_one turn.invariant.0 turn.invariant.1 (turn.top - 1) (omega arith) refl in
    (ready.0, record { c = turn.c + 1; peels = one; index = turn.invariant.1 })

pub overflow_add-c : goal.overflow_add-c
overflow_add-c c = omega (arith, ready_below c.loop-top.invariant.0 (c.loop-top.top - 1) (omega arith), c.args.links.hold.groups)

pub loop-top-smaller : goal.loop-top-smaller
loop-top-smaller c = omega (arith, ready_below c.loop-top.invariant.0 (c.loop-top.top - 1) (omega arith))

pub loop-top-preserved : goal.loop-top-preserved
unfolding count_of
loop-top-preserved c =
    let turn = c.loop-top in
    let one = peel_one turn.invariant.0 turn.invariant.1 (turn.top - 1) (omega arith) refl in
    let walk = c.walk-top.ensures in
    (walk.peels (turn.c + 1) one, indexed_kept walk.first turn.invariant.1)

pub returns : goal.returns
returns c = peels_at (omega arith) c.loop-top.invariant.0
