-- `printing::put_pick` meets its contract. The chooser does not refuse an admitted survey, and what it marks is put. Assumes nothing.
use mathlib.Core.Path.{refl}
use Rattle.printing.proofs.PickLaws.{not_refused, chosen_puttable, chosen_puts}
use Rattle.printing.proofs.put_pick.Goals as goal

pub put_marked-requires : goal.put_marked-requires
put_marked-requires c = chosen_puttable c.requires refl refl c.in-Ok.ensures

pub returns-in-Err : goal.returns-in-Err
returns-in-Err c = absurd (not_refused c.requires refl refl c.in-Err.ensures)

pub returns-in-Ok : goal.returns-in-Ok
returns-in-Ok c = chosen_puts c.in-Ok.ensures c.put_marked.ensures
