use Rattle.cycles.proofs.PeelEnd.{Walking}
use Rattle.cycles.specs.Lists.{links_in}
use Rattle.cycles.proofs.peeling.walk.Given as goal

abbrev pub invariant-loop-k : goal.invariant-loop-k
invariant-loop-k l = Walking (links_in l.links.list) l.initial.w l.w l.top l.now_top l.g l.k
