-- `copies::fill` meets its contract. The invariant: the list is filled as far as pair k. Assumes nothing.
use Rattle.survey.specs.SurveyFile.{in_blocks}
use Rattle.survey.specs.Promises.{Filled}
use Rattle.copies.proofs.fill.Given as goal

abbrev pub invariant-loop-k : goal.invariant-loop-k
invariant-loop-k l = Filled l.initial.list l.list l.k l.file (in_blocks l.start)
