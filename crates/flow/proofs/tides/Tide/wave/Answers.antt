-- `flow::tides::Tide::wave` meets its contract: what begins, what has grown, who is set apart and what was poured, by `wave_once`. Assumes nothing.
use native.Mathlib.Omega.{arith}
use Rattle.std.proofs.Common.{rules}
use Rattle.flow.proofs.DrainLaws.{ways_growable, grown_as}
use Rattle.flow.proofs.TideLaws.{wave_apartable, wave_pourable, wave_once}
use Rattle.flow.proofs.tides.Tide.wave.Goals as goal

pub grow-requires : goal.grow-requires
grow-requires c = rw c.begin.ensures.same.0
    (ways_growable c.args.net.now.chart.net c.requires.ask.rows.right c.requires.ask.rows.long c.begin.ensures.begun.placed
    (omega (arith, c.begin.ensures.begun.t_long, c.requires.ask.t_long)) (omega (arith, c.begin.ensures.begun.order_long, c.requires.order_long)))

pub set_apart-requires : goal.set_apart-requires
set_apart-requires c = wave_apartable c.args.net.now.chart c.requires c.begin.ensures.begun
    (grown_as c.begin.ensures.same.0 (search rules) (search rules) c.grow.ensures.grown)

pub pour-requires : goal.pour-requires
pour-requires c = wave_pourable c.args.net.now.chart c.requires c.begin.ensures.begun
    (grown_as c.begin.ensures.same.0 (search rules) (search rules) c.grow.ensures.grown) c.set_apart.ensures

pub returns-clause-waved : goal.returns-clause-waved
returns-clause-waved c = wave_once c.args.net.now.chart c.requires c.begin.ensures.begun
    (grown_as c.begin.ensures.same.0 (search rules) (search rules) c.grow.ensures.grown) c.set_apart.ensures c.pour.ensures.poured
