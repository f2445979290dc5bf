-- `flow::tides::Tide::waves` meets its contract. The invariant: the state has run on so far. The measure is the total lack. Assumes nothing.
use mathlib.Core.Path.{◌≡◌}
use lib.ListN.{length}
use Rattle.survey.specs.Limits.{group_limit}
use Rattle.flow.specs.Tides.{SameTide}
use Rattle.flow.specs.Waves.{lacks, Waved}
use Rattle.flow.proofs.tides.Tide.waves.Given as goal

abbrev pub invariant-loop-order : goal.invariant-loop-order
invariant-loop-order l = record {
  waved : Waved l.net.n l.net.e l.net.ends.now l.initial.self.amounts.now l.initial.self.excess.now l.initial.self.lack.now l.initial.self.ways.now l.initial.t
      l.self.amounts.now l.self.excess.now l.self.lack.now l.self.ways.now l.t;
  long : length l.order ≡ group_limit;
  same : SameTide l.initial.self l.self;
}

abbrev pub decreases-loop-order : goal.decreases-loop-order
decreases-loop-order l = lacks l.net.n l.self.lack.now
