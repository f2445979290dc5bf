-- `flow::waves::settle` meets its contract: the chains, the ways, and what the waves leave. Assumes nothing.
use mathlib.Core.Path.{refl}
use mathlib.Core.Logic.{inl, inr}
use native.Mathlib.Omega.{arith}
use lib.ListN.{get_or-replicate}
use Rattle.flow.specs.Chains.{head_at}
use Rattle.flow.proofs.ChainLaws.{index_stays}
use Rattle.flow.proofs.WayLaws.{no_ways}
use Rattle.flow.proofs.TideLaws.{settle_chainable, settle_empty}
use Rattle.flow.proofs.waves.settle.Goals as goal

pub chain-requires : goal.chain-requires
chain-requires c = settle_chainable c.requires (inl refl) (omega arith) (λ g l. get_or-replicate 2304 (head_at 0 g) _ 0 (omega (arith, c.requires.course.chart.net.few_groups)))

pub chain-requires-2 : goal.chain-requires-2
chain-requires-2 c = settle_chainable c.requires (inr refl) (omega (arith, c.chain.ensures.long))
    (settle_empty c.requires c.chain.ensures (λ i l. get_or-replicate 2304 i _ 0 (omega arith)))

pub find_ways-requires : goal.find_ways-requires
find_ways-requires c = record {
  net = c.requires.course.chart.net;
  amounts_long = c.requires.course.afloat.amounts_long;
  ways_long = omega
      (arith, c.requires.course.chart.net.few_groups);
  blank = no_ways 256;
}

pub invariant_of-net : goal.invariant_of-net
invariant_of-net c = record {
  chart = c.requires.course.chart;
  forth = index_stays c.requires.course.chart.net.few_groups c.requires.course.chart.net.few_links c.chain.ensures.index c.chain-2.ensures;
  back = c.chain-2.ensures.index;
}

pub waves-requires : goal.waves-requires
waves-requires c = record {
  afloat = c.requires.course.afloat;
  rows = record { right = c.find_ways.ensures.found; long = omega (arith, c.find_ways.ensures.long, c.requires.course.chart.net.few_groups) };
  t_long = c.requires.t_long;
}
