-- `blocks::file::block_faults` meets its contract. Rows 2 to 4, then 5 to 7. Assumes nothing.
use Rattle.refusals.proofs.Looking.{passed_on}
use Rattle.blocks.proofs.ChainLaws.{opened_header}
use Rattle.blocks.specs.FileFaults.{opening_faults, layout_faults}
use Rattle.survey.proofs.Verdicts.{afterwards, early, fine_clear}
use Rattle.blocks.proofs.file.block_faults.Goals as goal

pub returns-in_err-opening_faults : goal.returns-in_err-opening_faults
returns-in_err-opening_faults c = passed_on _ c.from_residual.ensures.1
    (early (opening_faults c.args.file.now) (layout_faults c.args.file.now) c.in_err-opening_faults.ensures)

pub layout_faults-requires : goal.layout_faults-requires
layout_faults-requires c = opened_header (fine_clear (opening_faults c.args.file.now) c.in_ok-opening_faults.ensures)

pub returns : goal.returns
returns c = afterwards (opening_faults c.args.file.now) (fine_clear (opening_faults c.args.file.now) c.in_ok-opening_faults.ensures) c.layout_faults.ensures
