-- `printing::print_pick` meets its contract. The page lies over the whole of the list. Assumes nothing.
use mathlib.Core.Path.{refl}
use Rattle.std.proofs.Common.{rules}
use Rattle.printing.proofs.PickLaws.{printed}
use Rattle.printing.proofs.print_pick.Goals as goal

pub returns : goal.returns
returns c = search (rules, printed refl c.put_file.ensures.put)
