-- The rows of the balance rule, and what is known before they are looked at.
use Rattle.std.specs.Prelude.{ℕ, ◌≤◌, ◌<◌, ◌≡◌, List, [], ◌∷◌}
use Rattle.survey.specs.Limits.{amount_limit}
use Rattle.survey.specs.Survey.{Survey}
use Rattle.survey.specs.Sets.{Set, D}
use Rattle.survey.specs.Balance.{Amounts}
use Rattle.survey.specs.Words.{marked_set, amounts_of}
use Rattle.survey.specs.Refusals.{Fault}
use Rattle.survey.specs.Faults.{balance_above, not_largest}
use Rattle.calls.specs.Calls.{AdmittedCall}
use Rattle.weights.specs.Marked.{groups_of}

-- 17 and 18
abbrev pub rule_faults : Survey → Set → Amounts → List Fault
rule_faults s S a = balance_above s S a ∷ not_largest s S a ∷ []

-- what is known before a balance is looked at: the call is admitted, the amounts are within their limit, and d is D of the claimed set
pub record RuleAsks (n e : ℕ) (groups links marks amounts : List ℕ) (d : ℕ) : Type 0 where
  pub call : AdmittedCall n e groups links marks amounts
  pub small : (k : ℕ) → k < e → amounts_of amounts k ≤ amount_limit
  pub dead : d ≡ D (groups_of n groups) (marked_set marks)
