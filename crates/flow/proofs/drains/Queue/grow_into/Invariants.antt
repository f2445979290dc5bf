-- `flow::drains::Queue::grow_into` meets its contract. The invariant: the rows of the groups before the place `at` of the order are seen to. Assumes nothing.
use Prim.Native.Nat.{◌-◌}
use Rattle.flow.specs.Tides.{SameQueue}
use Rattle.flow.proofs.DrainLaws.{Growth}
use Rattle.flow.proofs.drains.Queue.grow_into.Given as goal

abbrev pub invariant-loop-at : goal.invariant-loop-at
invariant-loop-at l = record {
  growth : Growth l.initial.self.n l.ways l.initial.others l.initial.self.t.now l.initial.self.order.now l.initial.self.count
      l.others l.self.t.now l.self.order.now l.self.count l.at;
  same : SameQueue l.initial.self l.self;
}

abbrev pub decreases-loop-at : goal.decreases-loop-at
decreases-loop-at l = l.initial.self.n - l.at
