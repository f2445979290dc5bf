use Rattle.chooser.proofs.EndLaws.{running_none, fewer, running_more, ended}
use Rattle.chooser.proofs.rounds.Working.rounds.Goals as goal

pub loop-further-init : goal.loop-further-init
loop-further-init c = running_none c.requires

pub loop-further-smaller : goal.loop-further-smaller
loop-further-smaller c = fewer c.requires c.loop-further.invariant c.round.ensures c.loop-further-test.true

pub loop-further-preserved : goal.loop-further-preserved
loop-further-preserved c = running_more c.requires c.loop-further.invariant c.round.ensures c.loop-further-test.true

pub returns : goal.returns
returns c = ended c.requires c.loop-further.invariant c.round.ensures c.loop-further-test.false
