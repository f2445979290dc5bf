-- `blocks::file::layout_faults` meets its contract. A row after the other. Assumes nothing.
use Rattle.refusals.proofs.Looking.{stop_at, stop_whole, whole_clear}
use Rattle.survey.proofs.Verdicts.{past, none_left}
use Rattle.blocks.proofs.file.layout_faults.Goals as goal

pub returns-then-out_of_range : goal.returns-then-out_of_range
returns-then-out_of_range c = stop_whole (rw (c.size_in.ensures.groups.0, c.size_in.ensures.links.0) at c.if-out_of_range.ensures) c.refused_whole.ensures

pub returns-then-not-blocks_fit : goal.returns-then-not-blocks_fit
returns-then-not-blocks_fit c = past (whole_clear (rw (c.size_in.ensures.groups.0, c.size_in.ensures.links.0) at c.if-out_of_range.ensures))
    (stop_whole c.if-not-blocks_fit.ensures c.refused_whole-then-not-blocks_fit.ensures)

pub returns-in-Some : goal.returns-in-Some
returns-in-Some c = past (whole_clear (rw (c.size_in.ensures.groups.0, c.size_in.ensures.links.0) at c.if-out_of_range.ensures))
    (past (whole_clear (λ d. d c.if-not-blocks_fit.ensures))
    (stop_at c.in-Some.ensures c.refused.ensures))

pub returns-in-Some-first_bad_unused : goal.returns-in-Some-first_bad_unused
returns-in-Some-first_bad_unused c = past (whole_clear (rw (c.size_in.ensures.groups.0, c.size_in.ensures.links.0) at c.if-out_of_range.ensures))
    (past (whole_clear (λ d. d c.if-not-blocks_fit.ensures))
    (past c.in_default.ensures
    (stop_at c.in-Some-first_bad_unused.ensures c.refused-in-Some-first_bad_unused.ensures)))

pub returns : goal.returns
returns c = past (whole_clear (rw (c.size_in.ensures.groups.0, c.size_in.ensures.links.0) at c.if-out_of_range.ensures))
    (past (whole_clear (λ d. d c.if-not-blocks_fit.ensures))
    (past c.in_default.ensures
    (past c.in_default-first_bad_unused.ensures none_left)))
