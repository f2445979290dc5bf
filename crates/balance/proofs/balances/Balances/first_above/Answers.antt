use Rattle.std.proofs.Common.{refl, rules}
use Rattle.std.proofs.lemmas.Iterator.{first_from_Range}
use Rattle.refusals.proofs.Looking.{first_finds}
use Rattle.balance.proofs.balances.Balances.first_above.Goals as goal

pub returns : goal.returns
returns c = first_finds _ _ refl (first_from_Range _ _ _ _ _ _ c.find.ensures.ran (λ x q k. search rules) (λ x q k. search rules))
