-- One round, and all rounds from all groups on.
use Rattle.std.specs.Prelude.{ℕ, ◌*◌, ◌<◌, ◌≤◌, ◌≡◌, Bool, true, false, List, length, get_or}
use Rattle.survey.specs.Limits.{entry_bytes, amount_limit}
use Rattle.survey.specs.Survey.{Survey}
use Rattle.survey.specs.Sets.{In, Same, all_groups, outside}
use Rattle.survey.specs.Rounds.{weights, WeighsZero, Heaviest, RoundsOf}
use Rattle.survey.specs.Balance.{credit, debit, Accepted}
use Rattle.survey.specs.Words.{survey_of, marked_set, amounts_of}
use Rattle.survey.specs.Sound.{Sound}
use Rattle.survey.specs.Draining.{Drains}

-- some group has a number above 0
pub record AnyAbove (n : ℕ) (l : List ℕ) : Type 0 where
  pub group : ℕ
  pub below : group < n
  pub above : 0 < get_or l group 0

-- ---- what the calls ask

-- an admitted survey whose lists have an entry for each group and link
pub record Listed (n e : ℕ) (groups links : List ℕ) : Type 0 where
  pub sound : Sound (survey_of n e groups links)
  pub groups_long : entry_bytes * n ≤ length groups
  pub links_long : entry_bytes * e ≤ length links

-- Specification 6.1: in the first round the current set is that of all groups.
pub record AllAsk (n e : ℕ) (groups links current : List ℕ) : Type 0 where
  pub listed : Listed n e groups links
  pub all : Same (survey_of n e groups links) all_groups (marked_set current)

-- ---- what they promise

-- what lies past the groups and the links stays as it was
pub record Kept (n e : ℕ) (current amounts current' amounts' : List ℕ) : Type 0 where
  pub current_rest : (g : ℕ) → n ≤ g → get_or current' g 0 ≡ get_or current g 0
  pub amounts_rest : (i : ℕ) → entry_bytes * e ≤ i → get_or amounts' i 0 ≡ get_or amounts i 0
  pub current_long : length current' ≡ length current
  pub amounts_long : length amounts' ≡ length amounts

-- marks that are 0 or 1, and amounts within their limit
pub record Worked (n e : ℕ) (current amounts current' amounts' : List ℕ) : Type 0 where
  pub small : (k : ℕ) → k < e → amounts_of amounts' k ≤ amount_limit
  pub bits : (g : ℕ) → g < n → get_or current' g 0 ≤ 1
  pub kept : Kept n e current amounts current' amounts'

-- One round of the survey s: its set is the heaviest, with the amounts that prove it; whether it weighs more than 0 is told.
pub record RoundOf (s : Survey) (current : List ℕ) (more : Bool) (current' amounts' : List ℕ) : Type 0 where
  pub heaviest : Heaviest s (weights s (marked_set current)) (marked_set current')
  pub drains : Drains s (weights s (marked_set current)) (amounts_of amounts') (outside (marked_set current'))
  pub dry :
      (g : ℕ) → g < s.n → In (outside (marked_set current')) g
      → credit s (weights s (marked_set current)) (amounts_of amounts') g ≤ debit s (weights s (marked_set current)) (amounts_of amounts') g
  pub further : more ≡ true → WeighsZero s (weights s (marked_set current)) (marked_set current') → ⊥
  pub last : more ≡ false → WeighsZero s (weights s (marked_set current)) (marked_set current')

pub record Round (n e : ℕ) (groups links current amounts : List ℕ) (more : Bool) (current' amounts' : List ℕ) : Type 0 where
  pub worked : Worked n e current amounts current' amounts'
  pub round : RoundOf (survey_of n e groups links) current more current' amounts'

-- r rounds from all groups on, and the set that they end with, whose amounts the balance rule accepts
pub record Ended (n e : ℕ) (groups links current amounts : List ℕ) (r : ℕ) (current' amounts' : List ℕ) : Type 0 where
  pub worked : Worked n e current amounts current' amounts'
  pub counted : RoundsOf (survey_of n e groups links) r (marked_set current')
  pub accepted : Accepted (survey_of n e groups links) (marked_set current') (amounts_of amounts')
