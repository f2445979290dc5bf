-- `printing::put_file` meets its contract. The reader's refusal, or the pick of the survey that it read. Assumes nothing.
use mathlib.Core.Path.{refl}
use Rattle.printing.proofs.PickLaws.{refusal_put, survey_read, pick_put}
use Rattle.printing.proofs.put_file.Goals as goal

pub put_pick-requires : goal.put_pick-requires
put_pick-requires c = survey_read refl refl c.in-Ok.ensures c.requires

pub returns-in-Err-clause-put : goal.returns-in-Err-clause-put
returns-in-Err-clause-put c = refusal_put refl refl c.in-Err.ensures c.put_refused_line.ensures

pub returns-in-Ok-clause-put : goal.returns-in-Ok-clause-put
returns-in-Ok-clause-put c = pick_put refl refl c.in-Ok.ensures c.put_pick.ensures
