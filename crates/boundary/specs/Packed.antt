-- Which answers one number of 64 bits can hold: number + 256·sort + 65,536·place.
use Rattle.survey.specs.declared.answers.Size.{Size}
use Rattle.std.specs.Prelude.{ℕ, ◌^◌, ◌<◌, Result, Ok, Err}
use Rattle.survey.specs.declared.answers.Refusal.{Refusal}
use Rattle.survey.specs.Answers.{place_number}

-- a number that fits its byte and is not 0, which is a success's, and a place that leaves room
pub record SmallRefusal (r : Refusal) : Type 0 where
  pub number : r.number < 256
  pub above : 0 < r.number
  pub place : place_number r.place < 2 ^ 40

-- n fits between the low 16 bits and e, and e above it
pub record SmallSurvey (n e : ℕ) : Type 0 where
  pub groups : n < 2 ^ 16
  pub links : e < 2 ^ 32

abbrev pub SmallReading : Result Size Refusal → Type 0
SmallReading (Err r) = SmallRefusal r
SmallReading (Ok size) = SmallSurvey size.n size.e

abbrev pub SmallChoice : Result ℕ Refusal → Type 0
SmallChoice (Err r) = SmallRefusal r
SmallChoice (Ok rounds) = rounds < 2 ^ 48

abbrev pub SmallJudgement : Result (Unit {0}) Refusal → Type 0
SmallJudgement (Err r) = SmallRefusal r
SmallJudgement (Ok _) = Unit {0}
