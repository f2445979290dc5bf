-- `blocks::file::opening_faults` meets its contract. A row after the other; once the length is good there is a header. Assumes nothing.
use Rattle.refusals.proofs.Looking.{stop_at, stop_whole, whole_clear, only_lowest, only_clear}
use Rattle.blocks.proofs.ChainLaws.{has_header}
use Rattle.survey.proofs.Verdicts.{past, none_left}
use Rattle.survey.specs.Faults.{bad_header}
use Rattle.blocks.proofs.file.opening_faults.Goals as goal

pub returns-then-bad_length : goal.returns-then-bad_length
returns-then-bad_length c = stop_whole c.if-bad_length.ensures c.refused_whole.ensures

pub returns-in-Some : goal.returns-in-Some
returns-in-Some c = past (whole_clear c.if-bad_length.ensures)
    (stop_at c.in-Some.ensures c.refused.ensures)

pub number_and_kind-requires : goal.number_and_kind-requires
number_and_kind-requires c = has_header c.if-bad_length.ensures

pub returns-then-not-number_and_kind : goal.returns-then-not-number_and_kind
returns-then-not-number_and_kind c = past (whole_clear c.if-bad_length.ensures)
    (past c.in_default.ensures
    (stop_at (only_lowest 4 (bad_header c.args.file.now).at
    c.if-not-number_and_kind.ensures) c.refused-then-not-number_and_kind.ensures))

pub returns : goal.returns
returns c = past (whole_clear c.if-bad_length.ensures)
    (past c.in_default.ensures
    (past (only_clear 4 (bad_header c.args.file.now).at (λ d. d c.if-not-number_and_kind.ensures)) none_left))
