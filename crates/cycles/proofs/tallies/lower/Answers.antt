-- `cycles::tallies::lower` meets its contract. The count goes down by one before the group is settled. Assumes nothing.
use mathlib.Core.Path.{refl}
use native.Mathlib.Omega.{arith}
use Rattle.cycles.specs.Tallies.{count_of, first_of}
use Rattle.cycles.proofs.TallyLaws.{count_put, first_put, put_kept, kept_on}
use Rattle.cycles.proofs.tallies.lower.Goals as goal

pub overflow_sub-w : goal.overflow_sub-w
unfolding count_of
overflow_sub-w c = omega arith

pub returns : goal.returns
unfolding count_of first_of
returns c = (
  record { between = _; less = count_put _ _ _ (omega (arith, c.told-w)); settled = c.settle.ensures.0 },
  kept_on (put_kept (first_put _ _ _ (omega (arith, c.told-w))) refl) c.settle.ensures.1,
)
