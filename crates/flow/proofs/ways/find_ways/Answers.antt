use mathlib.Core.Path.{◌∙◌}
use native.Mathlib.Omega.{arith}
use Rattle.flow.proofs.WayLaws.{ways_more, found_length}
use Rattle.flow.proofs.ways.find_ways.Goals as goal

pub loop-k-preserved : goal.loop-k-preserved
loop-k-preserved c = (
  found_length c.find_way.ensures ∙ c.loop-k.invariant.0,
  ways_more c.requires.net c.loop-k-test.true c.end_in-p.ensures c.end_in-q.ensures (omega arith) c.loop-k.invariant.1 c.find_way.ensures,
)
