use Rattle.std.proofs.Common.{rules}
use Rattle.std.proofs.lemmas.Iterator.{first_from_Range}
use Rattle.survey.specs.Faults.{bad_unused}
use Rattle.refusals.proofs.Looking.{first_finds}
use Rattle.blocks.proofs.searches.first_bad_unused.Goals as goal

pub returns : goal.returns
returns c = first_finds (bad_unused c.args.file.now) _ c.blocks_in.ensures
    (first_from_Range _ _ _ _ _ _ c.find.ensures.ran (λ x q k. search rules) (λ x q k. search rules))
