use native.Mathlib.Omega.{arith}
use Rattle.std.proofs.Common.{rules}
use Rattle.flow.proofs.JoinLaws.{joining_done, joining_on, left_less, left_here, left_place}
use Rattle.flow.proofs.drains.Queue.join.Goals as goal

pub bounds-self-g : goal.bounds-self-g
bounds-self-g c = left_here c.requires c.loop-left.invariant.joining c.loop-left-test.true c.lowest-i.ensures

pub bounds-self-place : goal.bounds-self-place
bounds-self-place c = left_place c.requires c.loop-left.invariant.joining c.loop-left-test.true c.lowest-i.ensures

pub loop-left-smaller : goal.loop-left-smaller
loop-left-smaller c = omega (arith, left_less c.requires c.loop-left.invariant.joining c.loop-left-test.true c.lowest-i.ensures, c.leave-left.ensures)

pub loop-left-preserved : goal.loop-left-preserved
loop-left-preserved c = record {
  joining = rw c.leave-left.ensures (joining_on c.requires c.loop-left.invariant.joining c.loop-left-test.true c.lowest-i.ensures);
  same = search rules;
}

pub returns-clause-joined : goal.returns-clause-joined
returns-clause-joined c = joining_done c.requires c.loop-left.invariant.joining c.loop-left-test.false
