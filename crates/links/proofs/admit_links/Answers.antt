-- `links::admit_links` meets its contract. A row after the other: where one is found the answer stops there, else it goes past it. Assumes nothing.
use Rattle.refusals.proofs.Looking.{stop_at, stop_whole, whole_clear}
use Rattle.survey.proofs.Verdicts.{past, none_left}
use Rattle.links.proofs.admit_links.Goals as goal

pub returns-in-Some : goal.returns-in-Some
returns-in-Some c = stop_at c.in-Some.ensures c.refused.ensures

pub returns-in-Some-first_not_above : goal.returns-in-Some-first_not_above
returns-in-Some-first_not_above c = past c.in_default.ensures (stop_at c.in-Some-first_not_above.ensures c.refused-in-Some-first_not_above.ensures)

pub has_cycle-requires : goal.has_cycle-requires
has_cycle-requires c =
    let pre = c.requires in
    record { groups = pre.0; links = pre.1; ends = c.in_default.ensures; order = c.in_default-first_not_above.ensures }

pub returns-then-has_cycle : goal.returns-then-has_cycle
returns-then-has_cycle c = past c.in_default.ensures (past c.in_default-first_not_above.ensures (stop_whole c.if-has_cycle.ensures c.refused_whole.ensures))

pub returns : goal.returns
returns c = past c.in_default.ensures (past c.in_default-first_not_above.ensures (past (whole_clear c.if-has_cycle.ensures) none_left))
