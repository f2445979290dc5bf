-- `balance::rule_faults` meets its contract. A row after the other, each said of the survey. Assumes nothing.
use Rattle.balance.proofs.RuleRows.{largest_asks}
use native.Mathlib.Omega.{arith}
use Rattle.balance.proofs.rule_faults.Goals as goal

pub first_left_out-requires : goal.first_left_out-requires
first_left_out-requires c = largest_asks c.requires (omega arith)
