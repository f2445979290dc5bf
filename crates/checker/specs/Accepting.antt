-- What it is for a claim to be acceptable, all rows and the balance rule together (Specification 1.4, demand 3), and what a refusal 18 says.
use Rattle.survey.specs.declared.answers.Refusal.{Refusal}
use Rattle.std.specs.Prelude.{ℕ, ◌≤◌, ◌<◌, ◌≡◌, ◌⊎◌, List, [], ◌∷◌, ◌++◌, get_or, Result, Err}
use Rattle.survey.specs.Limits.{amount_limit}
use Rattle.survey.specs.Sets.{Set, In, Out, Contains}
use Rattle.survey.specs.Rounds.{weights}
use Rattle.survey.specs.Balance.{LargestSettled, Accepted}
use Rattle.survey.specs.Words.{survey_of, marked_set, amounts_of}
use Rattle.survey.specs.Refusals.{Fault}
use Rattle.survey.specs.Faults.{bad_mark, bad_amount, not_closed, nothing_dead, balance_above, chooser_faults, Admitted}
use Rattle.refusals.specs.Refused.{refusal_at}
use Rattle.calls.specs.Calls.{LongEnough}

-- A claim that is to be accepted: lists that are long enough, an admitted survey, marks that are 0 or 1, amounts within their limit, and the
-- balance rule.
pub record Acceptable (n e : ℕ) (groups links marks amounts : List ℕ) : Type 0 where
  pub long : LongEnough groups links marks amounts
  pub admitted : Admitted (survey_of n e groups links)
  pub marks_good : (g : ℕ) → g < n → (get_or marks g 0 ≡ 0) ⊎ (get_or marks g 0 ≡ 1)
  pub amounts_good : (k : ℕ) → k < e → amounts_of amounts k ≤ amount_limit
  pub rule : Accepted (survey_of n e groups links) (marked_set marks) (amounts_of amounts)

-- every row of the checker's table but the last: 1, 5 and 8 to 17
abbrev pub before18 : ℕ → ℕ → List ℕ → List ℕ → List ℕ → List ℕ → List Fault
before18 n e groups links marks amounts =
    chooser_faults n e groups links marks amounts
    ++ (bad_mark (survey_of n e groups links) marks
    ∷ bad_amount (survey_of n e groups links) (amounts_of amounts)
    ∷ not_closed (survey_of n e groups links) (marked_set marks)
    ∷ nothing_dead (survey_of n e groups links) (marked_set marks)
    ∷ balance_above (survey_of n e groups links) (marked_set marks) (amounts_of amounts)
    ∷ [])

-- A refusal 18: its group is the lowest that the largest settled set has and the claim leaves out, and the claimed set lies in the largest.
pub record Refused18 (n e : ℕ) (groups links marks amounts : List ℕ) (r : Result (Unit {0}) Refusal) : Type 0 where
  pub group : ℕ
  pub is : r ≡ Err (refusal_at 18 group)
  pub largest_set : Set
  pub largest : LargestSettled (survey_of n e groups links) (weights (survey_of n e groups links) (marked_set marks)) (amounts_of amounts) largest_set
  pub contains : Contains (survey_of n e groups links) largest_set (marked_set marks)
  pub below : group < n
  pub inside : In largest_set group
  pub out : Out (marked_set marks) group
  pub first : (j : ℕ) → j < group → In largest_set j → Out (marked_set marks) j → ⊥
