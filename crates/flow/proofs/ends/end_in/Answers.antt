-- `flow::ends::end_in` meets its contract: a byte of the copy. Assumes nothing.
use mathlib.Core.Path.{refl}
use Rattle.flow.specs.Copies.{end_in}
use Rattle.flow.proofs.ends.end_in.Goals as goal

pub returns : goal.returns
unfolding end_in
returns c = refl
