-- `flow::heavy::halve` meets its contract. The invariant: the weights below g are halved. Assumes nothing.
use Rattle.flow.specs.Heavy.{Halved}
use Rattle.flow.proofs.heavy.halve.Given as goal

abbrev pub invariant-loop-g : goal.invariant-loop-g
invariant-loop-g l = Halved l.g l.initial.plus l.initial.minus l.plus l.minus
