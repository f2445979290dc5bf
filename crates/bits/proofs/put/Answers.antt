-- `bits::put` meets its contract. The one store is the definition's. Assumes nothing.
use mathlib.Core.Path.{refl}
use Rattle.bits.proofs.put.Goals as goal

pub returns : goal.returns
returns c = rw c.lone.ensures refl
