use Rattle.cycles.proofs.Threads.{stack_none, stack_next}
use Rattle.cycles.proofs.TallyLaws.{kept_all, kept_on}
use native.Mathlib.Omega.{arith}
use Rattle.cycles.proofs.peeling.stack.Goals as goal

pub loop-g-init : goal.loop-g-init
loop-g-init c = (stack_none _, kept_all)

pub settle-top-requires : goal.settle-top-requires
settle-top-requires c = (omega arith, omega (arith, c.loop-g.invariant.0.small))

pub loop-g-preserved : goal.loop-g-preserved
loop-g-preserved c = (stack_next c.loop-g.invariant.0 c.settle-top.ensures.0, kept_on c.loop-g.invariant.1 c.settle-top.ensures.1)
