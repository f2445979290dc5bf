-- `flow::drains::Queue::join` meets its contract. The invariant: the groups of the word have joined but for those of `left`. Assumes nothing.
use Rattle.flow.specs.Tides.{SameQueue}
use Rattle.flow.proofs.JoinLaws.{Joining}
use Rattle.flow.proofs.drains.Queue.join.Given as goal

abbrev pub invariant-loop-left : goal.invariant-loop-left
invariant-loop-left l = record {
  joining : Joining l.initial.self.n l.half l.word l.initial.self.t.now l.initial.self.order.now l.initial.self.count l.self.t.now l.self.order.now l.self.count l.left;
  same : SameQueue l.initial.self l.self;
}

abbrev pub decreases-loop-left : goal.decreases-loop-left
decreases-loop-left l = l.left
