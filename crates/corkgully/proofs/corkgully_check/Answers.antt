-- `corkgully::corkgully_check` meets its contract. The checker's answer fits its number. Assumes nothing.
use Rattle.corkgully.proofs.Fit.{judgement_small}
use Rattle.corkgully.proofs.corkgully_check.Goals as goal

pub judgement_number-requires : goal.judgement_number-requires
judgement_number-requires c = judgement_small c.check.result c.check.ensures
