-- The largest settled set, as what lies outside the set that drains.
use Rattle.std.specs.Prelude.{ℕ, ◌*◌, ◌≤◌, List, length, get_or, Option}
use Rattle.survey.specs.Limits.{entry_bytes}
use Rattle.survey.specs.Survey.{Survey}
use Rattle.survey.specs.Sets.{Out}
use Rattle.survey.specs.Words.{marked_set, amounts_of}
use Rattle.survey.specs.Refusals.{Fault, among}
use Rattle.refusals.specs.Searches.{Finds}
use Rattle.flow.specs.Links.{Given}
use Rattle.flow.specs.Drains.{Net, Least}

-- each group has its mark in both lists
pub record MarksLong (n : ℕ) (t marks : List ℕ) : Type 0 where
  pub t_long : n ≤ length t
  pub marks_long : n ≤ length marks

-- neither in the set that drains nor in the claimed one
abbrev pub Outside : List ℕ → List ℕ → ℕ → Type 0
Outside t marks g = Out (marked_set t) g × Out (marked_set marks) g

-- 18, by the two lists of marks
abbrev pub outside_row : ℕ → List ℕ → List ℕ → Fault
outside_row n t marks = among 18 n (Outside t marks)

pub record LargestAsks (n e : ℕ) (links marks amounts lack : List ℕ) : Type 0 where
  pub net : Net n e links
  pub amounts_long : entry_bytes * e ≤ length amounts
  pub lack_long : n ≤ length lack
  pub marks_long : n ≤ length marks

-- the lowest group that is outside the set that drains and not claimed
pub record LeftOutFound (n e : ℕ) (links marks amounts lack : List ℕ) (r : Option ℕ) : Type 0 where
  pub drain : List ℕ
  pub least : (s : Survey) → Given s n e links → Least s (amounts_of amounts) (λ g. get_or lack g 0) (marked_set drain)
  pub finds : Finds (outside_row n drain marks) r
