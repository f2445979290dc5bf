-- The three demands of Specification 1.4, as three theorems. They are stated over what the exported functions promise (specs/Numbers: `ReadNumber`, `ChooseNumber`, `CheckNumber`
-- say which number answers a call, and what the lent lists are afterwards) and in the words of docs/SPECIFICATION.md. The functions ask nothing of their
-- callers, so the theorems hold of every file and every call. A list with a ' is what its list has become when the call is over.
use Prim.Native.Nat.{ℕ}
use mathlib.Core.Path.{◌≡◌}
use mathlib.Core.List.{List}
use Rattle.survey.specs.Pick.{IsPick}
use Rattle.survey.specs.Words.{survey_of, marked_set}
use Rattle.survey.specs.SurveyFile.{n_in, e_in, survey_in}
use Rattle.survey.specs.Faults.{reader_faults, chooser_faults, checker_faults, Admitted, AdmittedFile}
use Rattle.words.specs.Words.{Bytes}
use Rattle.calls.specs.Calls.{LongEnough}
use Rattle.checker.specs.Accepting.{Acceptable}
use Rattle.corkgully.specs.Numbers.{ReadNumber, ChooseNumber, CheckNumber}
use Rattle.corkgully.specs.Outcomes.{Outcome, GivesSurvey, GivesPick, Succeeds}
use Rattle.corkgully.proofs.DemandLaws as laws

-- 1. Whatever is handed over is checked. A call is refused for the table's first fault, in the order of looking, at its lowest place, and then nothing
-- that was lent has changed; or the table has no fault, and the answer is given. There is no third case.
pub record Demand1 : Type 1 where
  pub reader :
      {f groups links groups' links' : List ℕ} {x : ℕ} → ReadNumber f groups links x groups' links'
      → Outcome (reader_faults f groups links) x ((groups' ≡ groups) × (links' ≡ links)) (GivesSurvey f x groups' links')
  pub chooser :
      {n e : ℕ} {groups links marks amounts marks' amounts' : List ℕ} {x : ℕ} → ChooseNumber n e groups links marks amounts x marks' amounts'
      → Outcome (chooser_faults n e groups links marks amounts) x ((marks' ≡ marks) × (amounts' ≡ amounts)) (GivesPick (survey_of n e groups links) x marks')
  pub checker :
      {n e : ℕ} {groups links marks amounts : List ℕ} {x : ℕ} → CheckNumber n e groups links marks amounts x
      → Outcome (checker_faults n e groups links marks amounts) x (Unit {0}) (x ≡ 0)

pub demand_1 : Demand1
demand_1 = record { reader = laws.reader_outcome; chooser = laws.chooser_outcome; checker = laws.checker_outcome }

-- 2. With lists that are long enough, a survey gets a pick exactly when it is admitted, and it is the pick: no other set is.
pub record Demand2 : Type 0 where
  -- given as lists
  pub admitted_picked :
      {n e : ℕ} {groups links marks amounts marks' amounts' : List ℕ} {x : ℕ} → ChooseNumber n e groups links marks amounts x marks' amounts'
      → LongEnough groups links marks amounts → Admitted (survey_of n e groups links) → GivesPick (survey_of n e groups links) x marks'
  pub picked_admitted :
      {n e : ℕ} {groups links marks amounts marks' amounts' : List ℕ} {x : ℕ} → ChooseNumber n e groups links marks amounts x marks' amounts'
      → Succeeds x → Admitted (survey_of n e groups links)
  -- given as a file: the lists that the reader fills hold the file's survey, and the chooser on them gives its pick
  pub file_picked :
      {f groups links marks amounts groups' links' marks' amounts' : List ℕ} {x y : ℕ} → ReadNumber f groups links x groups' links'
      → ChooseNumber (n_in f) (e_in f) groups' links' marks amounts y marks' amounts' → LongEnough groups links marks amounts → AdmittedFile f
      → GivesSurvey f x groups' links' × GivesPick (survey_in f) y marks'
  pub read_admitted : {f groups links groups' links' : List ℕ} {x : ℕ} → Bytes f → ReadNumber f groups links x groups' links' → Succeeds x → AdmittedFile f

pub demand_2 : Demand2
demand_2 =
    record {
      admitted_picked = laws.admitted_picked;
      picked_admitted = laws.picked_admitted;
      file_picked = laws.file_picked;
      read_admitted = laws.read_admitted;
    }

-- 3. A claim is accepted, with the answer 0, exactly when it is acceptable: the lists are long enough, the survey is admitted, marks and amounts are in
-- range, and the balance rule holds. What is accepted is the pick. And the checker accepts whatever the chooser gives.
pub record Demand3 : Type 0 where
  pub acceptable_accepted :
      {n e : ℕ} {groups links marks amounts : List ℕ} {x : ℕ} → CheckNumber n e groups links marks amounts x
      → Acceptable n e groups links marks amounts → x ≡ 0
  pub accepted_acceptable :
      {n e : ℕ} {groups links marks amounts : List ℕ} {x : ℕ} → CheckNumber n e groups links marks amounts x
      → x ≡ 0 → Acceptable n e groups links marks amounts
  pub accepted_pick :
      {n e : ℕ} {groups links marks amounts : List ℕ} {x : ℕ} → CheckNumber n e groups links marks amounts x
      → x ≡ 0 → IsPick (survey_of n e groups links) (marked_set marks)
  pub own_accepted :
      {n e : ℕ} {groups links marks amounts marks' amounts' : List ℕ} {x y : ℕ} → ChooseNumber n e groups links marks amounts x marks' amounts'
      → Succeeds x → CheckNumber n e groups links marks' amounts' y → y ≡ 0

pub demand_3 : Demand3
demand_3 =
    record {
      acceptable_accepted = laws.acceptable_zero;
      accepted_acceptable = laws.zero_acceptable;
      accepted_pick = laws.zero_pick;
      own_accepted = laws.own_zero;
    }
