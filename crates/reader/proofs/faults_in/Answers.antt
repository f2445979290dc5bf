-- `reader::faults_in` meets its contract. A file whose blocks have no fault has room for its entries, and is then admitted or not. Assumes nothing.
use Rattle.reader.proofs.FileLaws.{header_within, groups_fit, links_fit, then_survey}
use Rattle.refusals.proofs.Looking.{passed_on}
use Rattle.blocks.specs.FileFaults.{block_faults}
use Rattle.survey.proofs.Verdicts.{early, fine_clear}
use Rattle.survey.specs.Faults.{survey_faults}
use Rattle.survey.specs.SurveyFile.{survey_in}
use Rattle.reader.proofs.faults_in.Goals as goal

pub returns-in_err-block_faults : goal.returns-in_err-block_faults
returns-in_err-block_faults c =
    let f = c.args.file.now in
    passed_on _ c.from_residual.ensures.1 (early (block_faults f) (survey_faults (survey_in f)) c.in_err-block_faults.ensures)

pub size_in-size-requires : goal.size_in-size-requires
size_in-size-requires c = header_within c.args.file.now (fine_clear (block_faults c.args.file.now) c.in_ok-block_faults.ensures)

pub admit-requires : goal.admit-requires
admit-requires c =
    let f = c.args.file.now in
    let none = (fine_clear (block_faults c.args.file.now) c.in_ok-block_faults.ensures) in
    let n = c.size_in-size.ensures.groups.0 in
    let e = c.size_in-size.ensures.links.0 in
    (groups_fit f none n e c.first_link_block.ensures, links_fit f none n e c.first_link_block.ensures)

pub returns : goal.returns
returns c =
    let f = c.args.file.now in
    let n = c.size_in-size.ensures.groups.0 in
    let e = c.size_in-size.ensures.links.0 in
    then_survey f (fine_clear (block_faults c.args.file.now) c.in_ok-block_faults.ensures) n e c.first_link_block.ensures c.admit.ensures
