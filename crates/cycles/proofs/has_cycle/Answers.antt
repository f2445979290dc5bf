use Rattle.survey.specs.Limits.{group_limit}
use Rattle.cycles.proofs.PeelEnd.{peel_tells}
use Rattle.cycles.proofs.Peels.{peel_none}
use Rattle.cycles.proofs.ListLaws.{ends_inside}
use Rattle.cycles.proofs.Into.{indexed_kept}
use Rattle.cycles.proofs.TallyLaws.{blank}
use Rattle.cycles.proofs.has_cycle.Goals as goal

pub tally-requires : goal.tally-requires
tally-requires c = blank group_limit

pub peel-peeled-requires : goal.peel-peeled-requires
peel-peeled-requires c =
    let tally = c.tally.ensures in
    let stack = c.stack-top.ensures in
    (peel_none tally.count stack.0, indexed_kept stack.1 tally.index)

pub returns : goal.returns
returns c = peel_tells (ends_inside c.requires) c.peel-peeled.ensures
