-- `flow::drains::others_of` meets its contract. The invariant: the groups before the place of g in the order are taken out. Assumes nothing.
use Rattle.flow.specs.Drains.{OthersOf}
use Rattle.flow.proofs.drains.others_of.Given as goal

abbrev pub invariant-loop-g : goal.invariant-loop-g
invariant-loop-g l = OthersOf l.order l.g-index l.initial.others l.others
