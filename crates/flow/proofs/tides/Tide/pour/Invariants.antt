-- `flow::tides::Tide::pour` meets its contract. The invariant: the groups from place i of the order on have had their turn. Assumes nothing.
use Rattle.flow.specs.Tides.{SameTide}
use Rattle.flow.proofs.WaveLaws.{Pouring}
use Rattle.flow.proofs.tides.Tide.pour.Given as goal

abbrev pub invariant-loop-i : goal.invariant-loop-i
invariant-loop-i l = record {
  pouring : Pouring l.net.n l.net.e l.net.ends.now l.initial.self.amounts.now l.initial.self.excess.now l.initial.self.lack.now l.initial.self.ways.now l.initial.t
      l.order l.started l.count l.self.amounts.now l.self.excess.now l.self.lack.now l.self.ways.now l.t l.sent l.i;
  same : SameTide l.initial.self l.self;
}
