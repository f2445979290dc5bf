-- `flow::drains::Queue::begin` meets its contract. The invariant: of the groups below g, those with a lack have joined. Assumes nothing.
use Rattle.flow.specs.Tides.{SameQueue}
use Rattle.flow.specs.Drains.{Begun}
use Rattle.flow.proofs.drains.Queue.begin.Given as goal

abbrev pub invariant-loop-g : goal.invariant-loop-g
invariant-loop-g l = record {
  begun : Begun l.g l.lack l.initial.self.t.now l.initial.self.order.now l.self.t.now l.self.order.now l.self.count;
  same : SameQueue l.initial.self l.self;
}
