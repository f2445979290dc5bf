-- `flow::ways::find_ways` meets its contract. The invariant: the rows have the ways of the links below k. Assumes nothing.
use mathlib.Core.Path.{◌≡◌}
use lib.ListN.{length}
use Rattle.flow.specs.Copies.{copied, flowing}
use Rattle.flow.specs.Ways.{Ways}
use Rattle.flow.proofs.ways.find_ways.Given as goal

abbrev pub invariant-loop-k : goal.invariant-loop-k
invariant-loop-k l = (length l.ways ≡ length l.initial.ways) × Ways (copied l.n l.e l.ends) (flowing l.amounts) l.k l.ways
