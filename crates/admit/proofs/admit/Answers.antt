-- `admit::admit` meets its contract. A row after the other: where one is found the answer stops there, else it goes past it. Assumes nothing.
use mathlib.Core.List.{[], ◌∷◌}
use Rattle.survey.specs.Faults.{no_dead}
use Rattle.survey.specs.Words.{survey_at}
use Rattle.survey.proofs.Verdicts.{past, none_left, early, afterwards, fine_clear}
use Rattle.cycles.specs.Lists.{link_in}
use Rattle.links.specs.LinkFaults.{link_faults}
use Rattle.refusals.proofs.Looking.{passed_on, stop_at, stop_whole, whole_clear}
use Rattle.admit.specs.Groups.{group_in}
use Rattle.admit.proofs.ChainLaws.{in_range, by_links}
use Rattle.admit.proofs.admit.Goals as goal

pub returns-then-out_of_range : goal.returns-then-out_of_range
unfolding survey_at
returns-then-out_of_range c = stop_whole c.if-out_of_range.ensures c.refused_whole.ensures

pub invariant_of-group_list : goal.invariant_of-group_list
invariant_of-group_list c = record { fit = c.requires.0.fit (in_range c.if-out_of_range.ensures).0 }

pub returns-in-Some : goal.returns-in-Some
unfolding survey_at group_in
returns-in-Some c = past (whole_clear c.if-out_of_range.ensures) (stop_at c.in-Some.ensures c.refused.ensures)

pub admit_links-requires : goal.admit_links-requires
admit_links-requires c = in_range c.if-out_of_range.ensures

pub returns-in_err-admit_links : goal.returns-in_err-admit_links
unfolding survey_at link_in group_in
returns-in_err-admit_links c =
    let a = c.args in
    let s = survey_at a.size.n a.size.e a.groups.bytes.now a.groups.stand a.links.bytes.now a.links.stand in
    let stopped = early (link_faults s) (no_dead s ∷ []) (by_links c.in_err-admit_links.ensures) in
    passed_on _ c.from_residual.ensures.1 (past (whole_clear c.if-out_of_range.ensures) (past c.in_default.ensures stopped))

pub returns-then-none_dead : goal.returns-then-none_dead
unfolding survey_at link_in group_in
returns-then-none_dead c =
    past (whole_clear c.if-out_of_range.ensures) (past c.in_default.ensures
    (afterwards (link_faults _) (fine_clear (link_faults _) (by_links c.in_ok-admit_links.ensures)) (stop_whole c.if-none_dead.ensures c.refused_whole-then-none_dead.ensures)))

pub returns : goal.returns
unfolding survey_at link_in group_in
returns c =
    past (whole_clear c.if-out_of_range.ensures) (past c.in_default.ensures
    (afterwards (link_faults _) (fine_clear (link_faults _) (by_links c.in_ok-admit_links.ensures)) (past (whole_clear c.if-none_dead.ensures) none_left)))
