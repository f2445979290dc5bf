-- `flow::copies::put_amounts` meets its contract. The invariant: the amounts of the links below k are written. Assumes nothing.
use Rattle.flow.specs.Copies.{Put}
use Rattle.flow.proofs.copies.put_amounts.Given as goal

abbrev pub invariant-loop-k : goal.invariant-loop-k
invariant-loop-k l = Put l.k l.x l.initial.amounts l.amounts
