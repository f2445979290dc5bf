-- `cycles::tallies::settle` meets its contract. A group with no count goes on the stack. Assumes nothing.
use mathlib.Core.Path.{refl}
use native.Mathlib.Omega.{arith}
use Rattle.cycles.specs.Tallies.{count_of, first_of, pushed, waiting}
use Rattle.cycles.proofs.TallyLaws.{count_put, first_put, put_kept, kept_all}
use Rattle.cycles.proofs.tallies.settle.Goals as goal

pub returns-then-w-g-eq0 : goal.returns-then-w-g-eq0
unfolding count_of first_of
returns-then-w-g-eq0 c = (
  pushed (omega arith) (count_put _ _ _ (omega (arith, c.told-w))) refl,
  put_kept (first_put _ _ _ (omega (arith, c.told-w))) refl,
)

pub returns : goal.returns
unfolding count_of
returns c = (waiting (omega arith) kept_all refl, kept_all)
