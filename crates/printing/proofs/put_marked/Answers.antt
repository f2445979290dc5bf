-- `printing::put_marked` meets its contract. The three parts of the text, one after the other. Assumes nothing.
use Rattle.printing.proofs.PickLaws.{marked_puts}
use Rattle.printing.proofs.put_marked.Goals as goal

pub returns : goal.returns
returns c = marked_puts c.args.lists.n c.args.lists.e c.args.lists.groups.now c.args.marks.now c.args.rounds c.count_marked-k.ensures c.marked_sum-d.ensures c.marked_sum-l.ensures
    c.put_survey_line.ensures c.put_chosen_line.ensures c.put_numbers.ensures
