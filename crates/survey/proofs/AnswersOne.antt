-- Two answers that a table allows are equal, whatever its rows, where there is nothing to say but whether it refuses: of admission, and of a judgement.
use mathlib.Core.Path.{◌≡◌, refl}
use mathlib.Core.List.{List}
use native.Mathlib.Omega.{arith}
use Rattle.std.specs.Prelude.{ℕ, Result, Ok, Err}
use Rattle.survey.specs.declared.answers.Refusal.{Refusal}
use Rattle.survey.specs.Refusals.{Fault, Answers}
use Rattle.survey.specs.Answers.{verdict_of}
use Rattle.survey.proofs.Verdicts.{answers_one}

answer_of : (r r' : Result (Unit {0}) Refusal) → verdict_of r ≡ verdict_of r' → r ≡ r'
answer_of (Err r) (Err r') e = cc
answer_of (Err r) (Ok _) e = let z : ◌≡◌ {A = ℕ} 0 1 = cc in absurd (omega arith)
answer_of (Ok _) (Err r) e = let z : ◌≡◌ {A = ℕ} 0 1 = cc in absurd (omega arith)
answer_of (Ok _) (Ok _) e = refl

pub answer_one : (fs : List Fault) (r r' : Result (Unit {0}) Refusal) → Answers fs (verdict_of r) → Answers fs (verdict_of r') → r ≡ r'
answer_one fs r r' a b = answer_of r r' (answers_one fs a b)
