-- `flow::heavy::flip_all` meets its contract. The invariant: the places below the mark's are flipped. Assumes nothing.
use Rattle.flow.specs.Heavy.{Flipped}
use Rattle.flow.proofs.heavy.flip_all.Given as goal

abbrev pub invariant-loop-mark : goal.invariant-loop-mark
invariant-loop-mark l = Flipped l.mark-index l.initial.mark-items l.mark-items
