-- `balance::balances::Balances::put` meets its contract. Weights, then amounts. Assumes nothing.
use Rattle.balance.proofs.Balancing.{marked_groups, puttable, amounts_ask, balances_put}
use native.Mathlib.Omega.{arith}
use Rattle.balance.proofs.balances.Balances.put.Goals as goal

pub marked_sum-l-requires : goal.marked_sum-l-requires
marked_sum-l-requires c = marked_groups c.requires.call

pub put_weights-requires : goal.put_weights-requires
put_weights-requires c = puttable c.requires c.marked_sum-l.ensures (omega arith) (omega arith)

pub add_amounts-requires : goal.add_amounts-requires
add_amounts-requires c = amounts_ask c.requires c.marked_sum-l.ensures (omega arith) (omega arith) c.put_weights.ensures

pub returns : goal.returns
returns c = balances_put c.requires c.marked_sum-l.ensures (omega arith) (omega arith) c.put_weights.ensures c.add_amounts.ensures
