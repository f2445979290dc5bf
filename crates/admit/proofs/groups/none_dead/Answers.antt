use Rattle.std.proofs.Common.{rules}
use Rattle.refusals.proofs.Ranges.{all_of_range}
use Rattle.admit.proofs.groups.none_dead.Goals as goal

pub returns : goal.returns
returns c = all_of_range _ _ _ _ _ c.all.ensures.ran (λ x q k. search rules) (λ x q k. search rules)
