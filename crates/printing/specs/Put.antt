-- What putting the text of a pick asks and promises.
use Rattle.std.specs.Prelude.{ℕ, ◌*◌, ◌≤◌, List, ◌++◌, length}
use Rattle.survey.specs.Sets.{Set, D, L}
use Rattle.survey.specs.Words.{survey_of, marked_set}
use Rattle.survey.specs.Limits.{group_limit, link_limit, entry_bytes}
use Rattle.survey.specs.Pick.{IsPick}
use Rattle.survey.specs.Rounds.{RoundsOf}
use Rattle.survey.specs.Faults.{Admitted}
use Rattle.weights.specs.Marked.{groups_of, MarkedGroups}
use Rattle.printing.specs.declared.text.Page.{Page}
use Rattle.printing.specs.Printing.{survey_line, chosen_line, size, number_lines, pick_text, text_limit, Prints}
use Rattle.printing.specs.Pages.{HasRoom, Puts}

-- what putting a pick asks: an entry and a mark for each group, and room
pub record Puttable (n : ℕ) (groups marks : List ℕ) (page : Page) : Type 0 where
  pub marked : MarkedGroups n groups marks
  pub room : HasRoom text_limit page

-- the text of a pick that is marked in a list
abbrev pub marked_text : ℕ → ℕ → List ℕ → List ℕ → ℕ → List ℕ
marked_text n e groups marks rounds =
    survey_line n e
    ++ chosen_line (size (groups_of n groups) (marked_set marks)) (D (groups_of n groups) (marked_set marks)) (L (groups_of n groups) (marked_set marks)) rounds
    ++ number_lines n (marked_set marks)

-- What putting the pick of a survey asks: that the survey is admitted and its lists are as long as the chooser wants them, and room.
pub record ReadSurvey (n e : ℕ) (groups links : List ℕ) (page : Page) : Type 0 where
  pub admitted : Admitted (survey_of n e groups links)
  pub groups_long : entry_bytes * group_limit ≤ length groups
  pub links_long : entry_bytes * link_limit ≤ length links
  pub room : HasRoom text_limit page

-- The text of the survey's pick is put.
pub record PutPick (n e : ℕ) (groups links : List ℕ) (before after : Page) : Type 0 where
  pub chosen : Set
  pub rounds : ℕ
  pub pick : IsPick (survey_of n e groups links) chosen
  pub counted : RoundsOf (survey_of n e groups links) rounds chosen
  pub puts : Puts before (pick_text (survey_of n e groups links) chosen rounds) after

-- What is printed of the file is put.
pub record PutFile (f : List ℕ) (before after : Page) : Type 0 where
  pub text : List ℕ
  pub prints : Prints f text
  pub puts : Puts before text after
