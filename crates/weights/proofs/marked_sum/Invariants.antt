-- `weights::marked_sum` meets its contract. The invariant: what the groups below g bring is summed. Assumes nothing.
use Rattle.weights.proofs.MarkedLaws.{brought}
use Rattle.survey.specs.Sets.{sum}
use mathlib.Core.Path.{◌≡◌}
use Rattle.weights.proofs.marked_sum.Given as goal

abbrev pub invariant-loop-g : goal.invariant-loop-g
invariant-loop-g g l = let count = g.C.Count in count.number l.sum ≡ sum l.g (brought count.held l.lists.groups.now l.marks)
