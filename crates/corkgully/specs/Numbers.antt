-- Specification 12.2: each answer over the boundary is one number, which a definition of crates/survey gives for each case of the answer.
use Rattle.survey.specs.declared.answers.Refusal.{Refusal}
use Rattle.survey.specs.declared.answers.Size.{Size}
use Rattle.std.specs.Prelude.{ℕ, ◌≡◌, List, Result}
use Rattle.survey.specs.Answers.{reading_number, choice_number, judgement_number}
use Rattle.survey.specs.Promises.{ReaderSays, ChooserSays, CheckerSays}

-- the number of the reader's answer, and the two lists afterwards
pub record ReadNumber (f groups links : List ℕ) (number : ℕ) (groups' links' : List ℕ) : Type 0 where
  pub reading : Result Size Refusal
  pub says : ReaderSays f groups links reading groups' links'
  pub is : number ≡ reading_number reading

-- the number of the chooser's answer, and the two lists afterwards
pub record ChooseNumber (n e : ℕ) (groups links marks amounts : List ℕ) (number : ℕ) (marks' amounts' : List ℕ) : Type 0 where
  pub choice : Result ℕ Refusal
  pub says : ChooserSays n e groups links marks amounts choice marks' amounts'
  pub is : number ≡ choice_number choice

-- the number of the checker's answer
pub record CheckNumber (n e : ℕ) (groups links marks amounts : List ℕ) (number : ℕ) : Type 0 where
  pub judgement : Result (Unit {0}) Refusal
  pub says : CheckerSays n e groups links marks amounts judgement
  pub is : number ≡ judgement_number judgement
