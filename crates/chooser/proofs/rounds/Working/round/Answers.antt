-- `chooser::rounds::Working::round` meets its contract: the weights of the current set are put, the heaviest set is found, and what it weighs is the excess left.
-- Assumes nothing.
use native.Mathlib.Omega.{arith}
use Rattle.weights.proofs.PutLaws.{sound_puttable}
use Rattle.survey.specs.Words.{marked_set}
use Rattle.chooser.proofs.RoundLaws.{few_groups, few_links, round_weighable, round_law}
use Rattle.chooser.proofs.rounds.Working.round.Goals as goal

pub put_weights-requires : goal.put_weights-requires
put_weights-requires c =
    let few = few_groups c.requires in
    sound_puttable c.args.lists.n c.args.lists.e c.args.lists.groups.now c.args.lists.links.now c.requires.sound c.requires.groups_long
    (marked_set c.args.self.now.marks) c.marked_sum-d.ensures c.marked_sum-l.ensures (omega arith) (omega arith)

pub heaviest-requires : goal.heaviest-requires
heaviest-requires c =
    let few = few_groups c.requires in
    let few_e = few_links c.requires in
    round_weighable c.args.self.now.marks c.requires c.marked_sum-d.ensures c.marked_sum-l.ensures c.put_weights.ensures (omega arith) (omega arith)
    (omega arith) (omega arith)

pub returns : goal.returns
returns c = round_law c.args.self.now.marks c.requires c.marked_sum-d.ensures c.marked_sum-l.ensures c.put_weights.ensures c.heaviest.ensures c.any_above.result c.any_above.ensures
