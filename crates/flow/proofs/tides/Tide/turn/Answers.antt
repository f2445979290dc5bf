-- `flow::tides::Tide::turn` meets its contract: along both chains something is sent. Assumes nothing.
use Rattle.flow.specs.Waves.{rests}
use Rattle.flow.proofs.JoinLaws.{above_0}
use Rattle.flow.proofs.FlowLaws.{turn_back, turn_sent}
use Rattle.flow.proofs.tides.Tide.turn.Goals as goal

pub returns-then-self-g-eq0-clause-turned : goal.returns-then-self-g-eq0-clause-turned
returns-then-self-g-eq0-clause-turned c = rests c.if-self-g-eq0.true

pub spill-requires-2 : goal.spill-requires-2
spill-requires-2 c = turn_back c.requires c.spill.ensures.spilled

pub returns-clause-turned : goal.returns-clause-turned
returns-clause-turned c = turn_sent c.requires (above_0 c.if-self-g-eq0.false) c.spill.ensures.spilled c.spill-2.ensures.spilled
