-- `balance::balances::Balances::add_amounts` meets its contract. The invariant: the amounts of the links below k are added. Assumes nothing.
use Rattle.balance.specs.Balances.{AmountsAdded}
use Rattle.balance.proofs.balances.Balances.add_amounts.Given as goal

abbrev pub invariant-loop-k : goal.invariant-loop-k
invariant-loop-k l = AmountsAdded l.k l.lists.links.now l.amounts l.initial.self.credit l.initial.self.debit l.self.credit l.self.debit
