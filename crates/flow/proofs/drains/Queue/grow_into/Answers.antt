use Rattle.std.proofs.Common.{rules}
use Rattle.flow.proofs.DrainLaws.{growth_begins, see_first, see_second, growth_on, growth_done}
use Rattle.flow.proofs.drains.Queue.grow_into.Goals as goal

pub loop-at-init : goal.loop-at-init
loop-at-init c = record { growth = growth_begins c.requires; same = search rules }

pub see_half-requires : goal.see_half-requires
see_half-requires c = rw c.loop-at.invariant.same.0 (see_first c.requires c.loop-at.invariant.growth c.loop-at-test.true)

pub see_half-requires-in-loop-at : goal.see_half-requires-in-loop-at
see_half-requires-in-loop-at c = rw (c.see_half.ensures.same.0, c.loop-at.invariant.same.0)
    (see_second c.requires c.loop-at.invariant.growth c.loop-at-test.true (rw c.loop-at.invariant.same.0 at c.see_half.ensures.saw))

pub loop-at-preserved : goal.loop-at-preserved
loop-at-preserved c = record {
  growth = growth_on c.requires c.loop-at.invariant.growth c.loop-at-test.true (rw c.loop-at.invariant.same.0 at c.see_half.ensures.saw)
      (rw (c.see_half.ensures.same.0, c.loop-at.invariant.same.0) at c.see_half-in-loop-at.ensures.saw);
  same = search rules;
}

pub returns-clause-grown : goal.returns-clause-grown
returns-clause-grown c = growth_done c.loop-at-test.false c.loop-at.invariant.growth
