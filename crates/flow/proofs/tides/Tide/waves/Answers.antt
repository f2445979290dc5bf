use mathlib.Core.Path.{refl, ◌∙◌}
use native.Mathlib.Omega.{arith}
use Rattle.std.proofs.Common.{rules}
use Rattle.flow.proofs.TideLaws.{waved_none, waved_on, ask_after}
use Rattle.flow.proofs.tides.Tide.waves.Goals as goal

pub loop-order-init : goal.loop-order-init
loop-order-init c = record { waved = waved_none; long = refl; same = search rules }

pub wave-requires : goal.wave-requires
wave-requires c =
    record { ask = ask_after c.requires c.loop-order.invariant.waved; order_long = omega (arith, c.loop-order.invariant.long, c.args.net.now.chart.net.few_groups) }

pub loop-order-preserved : goal.loop-order-preserved
loop-order-preserved c = record {
  waved = waved_on c.loop-order.invariant.waved c.wave.ensures.waved.waved;
  long = c.wave.ensures.waved.order_long ∙ c.loop-order.invariant.long;
  same = search rules;
}
