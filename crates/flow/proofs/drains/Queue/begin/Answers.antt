use native.Mathlib.Omega.{arith}
use Rattle.std.proofs.Common.{rules}
use Rattle.flow.proofs.JoinLaws.{begun_none, begun_more, placed_most}
use Rattle.flow.proofs.drains.Queue.begin.Goals as goal

pub loop-g-init : goal.loop-g-init
loop-g-init c = record { begun = begun_none _ _ _; same = search rules }

pub loop-g-preserved : goal.loop-g-preserved
loop-g-preserved c = record {
  begun = begun_more c.loop-g.invariant.begun (omega arith) (omega (arith, placed_most c.loop-g.invariant.begun.placed)) c.begin_at.ensures.begins;
  same = search rules;
}
