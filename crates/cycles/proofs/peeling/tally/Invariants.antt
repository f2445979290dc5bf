use Rattle.cycles.specs.Peeling.{Tallied}
use Rattle.cycles.specs.Lists.{links_in}
use Rattle.cycles.proofs.peeling.tally.Given as goal

abbrev pub invariant-loop-k : goal.invariant-loop-k
invariant-loop-k l = Tallied (links_in l.links.list) l.w l.k
