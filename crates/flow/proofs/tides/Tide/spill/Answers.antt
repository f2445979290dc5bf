use native.Mathlib.Omega.{arith}
use Rattle.std.proofs.Common.{rules}
use Rattle.flow.proofs.ChainLaws.{index_of}
use Rattle.flow.proofs.JoinLaws.{above_0}
use Rattle.flow.proofs.FlowLaws.{spill_begins, spill_offerable, spill_on, spill_spent, spilled_ran}
use Rattle.flow.proofs.tides.Tide.spill.Goals as goal

pub loop-k-init : goal.loop-k-init
loop-k-init c = record { spilling = spill_begins c.args.net.now.chart c.requires (index_of _ c.requires.which c.args.net.now.forth c.args.net.now.back); same = search rules }

pub bounds-self-g : goal.bounds-self-g
bounds-self-g c = omega (arith, (spilled_ran c.loop-k.invariant.spilling.spilled).flowed.ex_long, c.requires.afloat.ex_long, c.requires.below)

pub returns-then-self-g-eq0-clause-spilled : goal.returns-then-self-g-eq0-clause-spilled
returns-then-self-g-eq0-clause-spilled c = spill_spent c.args.net.now.chart c.requires c.if-self-g-eq0.true c.loop-k.invariant.spilling

pub offer-requires : goal.offer-requires
offer-requires c = rw c.least_for-least.ensures (spill_offerable c.args.net.now.chart c.requires c.loop-k.invariant.spilling c.loop-k-test.true c.end_in-q.ensures)

pub loop-k-preserved : goal.loop-k-preserved
loop-k-preserved c = record {
  spilling = spill_on c.args.net.now.chart c.requires c.loop-k.invariant.spilling c.loop-k-test.true c.end_in-q.ensures
      (index_of _ c.requires.which c.args.net.now.forth c.args.net.now.back) (above_0 c.if-self-g-eq0.false)
      (rw c.least_for-least.ensures at c.offer.ensures.offered);
  same = search rules;
}
