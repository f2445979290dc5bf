-- `flow::draining::drained` meets its contract: what was copied, the ways, what begins and what has grown, by `drained_law`. Assumes nothing.
use mathlib.Core.Path.{refl}
use native.Mathlib.Omega.{arith}
use Rattle.std.proofs.Common.{rules}
use Rattle.flow.proofs.CopyLaws.{net_copyable, net_copy}
use Rattle.flow.proofs.WayLaws.{no_ways}
use Rattle.flow.proofs.DrainLaws.{ways_growable, drained_law, grown_as}
use Rattle.flow.proofs.draining.drained.Goals as goal

pub copy_ends-requires : goal.copy_ends-requires
copy_ends-requires c = net_copyable c.requires.net (omega (arith, c.requires.net.few_links))

pub find_ways-requires : goal.find_ways-requires
find_ways-requires c =
    record {
      net = (net_copy c.copy_ends.ensures c.requires.net (omega (arith, c.requires.net.few_links)));
      amounts_long = omega (arith, c.take_amounts.ensures.long, c.requires.net.few_links);
      ways_long = omega (arith, c.requires.net.few_groups);
      blank = no_ways 256;
    }

pub grow-requires : goal.grow-requires
grow-requires c = rw c.begin.ensures.same.0
    (ways_growable (net_copy c.copy_ends.ensures c.requires.net (omega (arith, c.requires.net.few_links))) c.find_ways.ensures.found
    (omega (arith, c.find_ways.ensures.long, c.requires.net.few_groups)) c.begin.ensures.begun.placed
    (omega (arith, c.begin.ensures.begun.t_long, c.requires.t_long)) (omega (arith, c.begin.ensures.begun.order_long, c.requires.net.few_groups)))

pub returns : goal.returns
returns c = drained_law c.copy_ends.ensures (net_copy c.copy_ends.ensures c.requires.net (omega (arith, c.requires.net.few_links))) c.take_amounts.ensures
    c.find_ways.ensures c.begin.ensures.begun (grown_as c.begin.ensures.same.0 (search rules) refl c.grow.ensures.grown)
