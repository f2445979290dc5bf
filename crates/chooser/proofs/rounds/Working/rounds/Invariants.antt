-- `chooser::rounds::Working::rounds` meets its contract. The invariant: so many rounds have led to the current set, each of more than 0. The measure: its number of
-- groups. Assumes nothing.
use Rattle.chooser.proofs.EndLaws.{Running}
use Rattle.survey.proofs.Rounds.{size}
use Rattle.survey.specs.Words.{survey_of, marked_set}
use Rattle.chooser.proofs.rounds.Working.rounds.Given as goal

abbrev pub invariant-loop-further : goal.invariant-loop-further
invariant-loop-further l =
    Running l.lists.n l.lists.e l.lists.groups.now l.lists.links.now l.initial.self.marks l.initial.self.amounts l.further l.self.marks l.self.amounts

abbrev pub decreases-loop-further : goal.decreases-loop-further
decreases-loop-further l = size (survey_of l.lists.n l.lists.e l.lists.groups.now l.lists.links.now) (marked_set l.self.marks)
