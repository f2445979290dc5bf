-- `flow::waves::set_apart` meets its contract. The invariant: who stands before the place of g in the order is marked 3. Assumes nothing.
use Rattle.flow.specs.Waves.{SetApart}
use Rattle.flow.proofs.waves.set_apart.Given as goal

abbrev pub invariant-loop-g : goal.invariant-loop-g
invariant-loop-g l = SetApart l.initial.t l.order l.g-index l.t
