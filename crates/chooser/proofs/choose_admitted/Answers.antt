-- `chooser::choose_admitted` meets its contract: the rounds begin with all groups, and what they end with is copied. Assumes nothing.
use Rattle.chooser.proofs.CopyLaws.{copied}
use Rattle.chooser.proofs.EndLaws.{chosen}
use Rattle.chooser.proofs.choose_admitted.Goals as goal

pub returns : goal.returns
returns c =
    let marks = c.copy_from_slice.ensures in
    let amounts = c.copy_from_slice-2.ensures in
    chosen c.requires c.rounds-r.ensures (copied _ c.requires.marks_long marks.len marks.after) (copied _ c.requires.amounts_long amounts.len amounts.after)
