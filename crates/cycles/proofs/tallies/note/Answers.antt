-- `cycles::tallies::note` meets its contract. First `from` has its link, then `to` its count. Assumes nothing.
use native.Mathlib.Omega.{arith}
use Rattle.cycles.specs.Tallies.{count_of}
use Rattle.cycles.proofs.TallyLaws.{counts_kept, noted}
use Rattle.cycles.proofs.tallies.note.Goals as goal

pub overflow_add-w : goal.overflow_add-w
unfolding count_of
overflow_add-w c = let a = c.args in omega (arith, (counts_kept a.w.now a.from a.to a.k (omega (arith, c.told-w)) (omega (arith, c.told-w))).at a.to)

pub returns : goal.returns
returns c = noted _ _ _ _ (omega (arith, c.told-w)) (omega (arith, c.told-w))
