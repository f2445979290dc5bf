-- How a call over the boundary can end, as the three demands of Specification 1.4 say it (proofs/Demands).
use Rattle.std.specs.Prelude.{ℕ, ◌+◌, ◌*◌, ◌%◌, ◌≡◌, List, ◌∷◌, ◌++◌}
use Rattle.survey.specs.Survey.{Survey}
use Rattle.survey.specs.Sets.{Set, Same}
use Rattle.survey.specs.Pick.{IsPick}
use Rattle.survey.specs.Rounds.{RoundsOf}
use Rattle.survey.specs.Words.{survey_of, marked_set}
use Rattle.survey.specs.SurveyFile.{n_in, e_in, survey_in}
use Rattle.survey.specs.Refusals.{Fault, AllClear, Lowest, refusal}
use Rattle.survey.specs.Answers.{refusal_number}

-- A refusal, by its number: of the table's faults one is there, at this place and at none below it, and no fault that stands before it is there.
pub record Refuses (table : List Fault) (number : ℕ) : Type 1 where
  pub before : List Fault
  pub fault : Fault
  pub after : List Fault
  pub stands : table ≡ before ++ (fault ∷ after)
  pub none_before : AllClear before
  pub place : ℕ
  pub lowest : Lowest fault place
  pub is : number ≡ refusal_number (refusal fault place)

-- A call ends in one of two ways: refused, with what was lent unchanged; or, where the table has no fault, with what is given.
pub data Outcome (table : List Fault) (number : ℕ) (unchanged given : Type 0) : Type 1 where
  refuses : Refuses table number → unchanged → Outcome table number unchanged given
  gives : AllClear table → given → Outcome table number unchanged given

-- the number of a success: its low 16 bits are 0
abbrev pub Succeeds : ℕ → Type 0
Succeeds number = number % 65_536 ≡ 0

-- The file's n and e, and its survey in the two lists.
pub record GivesSurvey (f : List ℕ) (number : ℕ) (groups links : List ℕ) : Type 0 where
  pub is : number ≡ 65_536 * n_in f + 4_294_967_296 * e_in f
  pub survey : survey_of (n_in f) (e_in f) groups links ≡ survey_in f

-- The survey's pick in the marks, no other set being it, and the count of the rounds that it is found by.
pub record GivesPick (s : Survey) (number : ℕ) (marks : List ℕ) : Type 0 where
  pub rounds : ℕ
  pub is : number ≡ 65_536 * rounds
  pub counted : RoundsOf s rounds (marked_set marks)
  pub pick : IsPick s (marked_set marks)
  pub only : (S : Set) → IsPick s S → Same s S (marked_set marks)
