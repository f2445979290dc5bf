-- `bits::cut` meets its contract. The one store is the definition's. Assumes nothing.
use mathlib.Core.Path.{refl}
use Rattle.bits.proofs.cut.Goals as goal

pub returns : goal.returns
returns c = rw c.leave.ensures refl
