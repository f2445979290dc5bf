use Prim.Native.Nat.{◌-◌}
use Rattle.cycles.specs.Lists.{links_in}
use Rattle.cycles.specs.Tallies.{count_of, first_of}
use Rattle.cycles.specs.Peeling.{Peels, Indexed, none_owed}
use Rattle.cycles.proofs.peeling.peel.Given as goal

abbrev pub invariant-loop-top : goal.invariant-loop-top
invariant-loop-top l = Peels (links_in l.links.list) (count_of l.w) l.top l.c none_owed × Indexed (links_in l.links.list) (first_of l.w) 0

abbrev pub decreases-loop-top : goal.decreases-loop-top
decreases-loop-top l = l.links.list.n - l.c
