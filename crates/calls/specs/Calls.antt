-- An admitted call of the chooser or the checker.
use Rattle.std.specs.Prelude.{ℕ, ◌*◌, ◌≤◌, List, length}
use Rattle.survey.specs.Limits.{group_limit, link_limit, entry_bytes}
use Rattle.survey.specs.Words.{entries, survey_of}
use Rattle.survey.specs.Sound.{Sound}

-- No list that the call lends is too short.
pub record LongEnough (groups links marks amounts : List ℕ) : Type 0 where
  pub groups_have : group_limit ≤ entries groups
  pub links_have : link_limit ≤ entries links
  pub marks_have : group_limit ≤ length marks
  pub amounts_have : link_limit ≤ entries amounts

-- Each list has its n or e entries, and no fault refuses the survey.
pub record AdmittedCall (n e : ℕ) (groups links marks amounts : List ℕ) : Type 0 where
  pub few_groups : n ≤ group_limit
  pub few_links : e ≤ link_limit
  pub groups_long : entry_bytes * n ≤ length groups
  pub links_long : entry_bytes * e ≤ length links
  pub marks_long : n ≤ length marks
  pub amounts_long : entry_bytes * e ≤ length amounts
  pub sound : Sound (survey_of n e groups links)
