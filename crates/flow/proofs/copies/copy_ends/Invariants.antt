-- `flow::copies::copy_ends` meets its contract. The invariant: the ends of the links below k are copied. Assumes nothing.
use Rattle.flow.specs.Copies.{Copied}
use Rattle.flow.proofs.copies.copy_ends.Given as goal

abbrev pub invariant-loop-k : goal.invariant-loop-k
invariant-loop-k l = Copied l.k l.links l.initial.ends l.ends
