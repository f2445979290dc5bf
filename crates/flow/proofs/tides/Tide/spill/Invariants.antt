-- `flow::tides::Tide::spill` meets its contract. The invariant: what was sent so far, with link k of the chain of g next. Assumes nothing.
use Prim.Native.Nat.{◌-◌}
use Rattle.flow.specs.Tides.{SameTide}
use Rattle.flow.proofs.FlowLaws.{Spilling}
use Rattle.flow.proofs.tides.Tide.spill.Given as goal

abbrev pub invariant-loop-k : goal.invariant-loop-k
invariant-loop-k l = record {
  spilling : Spilling l.net.n l.net.e l.end l.g l.net.ends.now l.initial.self.amounts.now l.initial.self.excess.now l.initial.self.lack.now l.initial.self.ways.now l.t
      l.self.amounts.now l.self.excess.now l.self.lack.now l.self.ways.now l.k;
  same : SameTide l.initial.self l.self;
}

abbrev pub decreases-loop-k : goal.decreases-loop-k
decreases-loop-k l = l.net.e - l.k
