-- `flow::copies::take_amounts` meets its contract. The invariant: the amounts of the links below k are read. Assumes nothing.
use Rattle.flow.specs.Copies.{Taken}
use Rattle.flow.proofs.copies.take_amounts.Given as goal

abbrev pub invariant-loop-k : goal.invariant-loop-k
invariant-loop-k l = Taken l.k l.amounts l.initial.x l.x
