-- `balance::balances::Balances::put_lacks` meets its contract. The invariant: the debits below g have become lacks. Assumes nothing.
use mathlib.Core.Path.{◌≡◌}
use Rattle.weights.specs.Put.{PutFirst}
use lib.ListN.{get_or}
use Prim.Native.Nat.{◌-◌}
use Rattle.balance.proofs.balances.Balances.put_lacks.Given as goal

abbrev pub invariant-loop-g : goal.invariant-loop-g
invariant-loop-g l =
    record {
      credit : l.self.credit ≡ l.initial.self.credit;
      debit : PutFirst l.g (λ i. get_or l.initial.self.debit i 0 - get_or l.initial.self.credit i 0) l.initial.self.debit l.self.debit;
    }
