use Rattle.cycles.specs.Peeling.{Stacked}
use Rattle.cycles.specs.Tallies.{count_of, first_of, Kept}
use Rattle.cycles.proofs.peeling.stack.Given as goal

abbrev pub invariant-loop-g : goal.invariant-loop-g
invariant-loop-g l = Stacked (count_of l.initial.w) (count_of l.w) l.g l.top × Kept (first_of l.initial.w) (first_of l.w)
