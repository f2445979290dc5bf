-- Specification 12, "Answers": for each answer, by its cases, whether it refuses, and the number that it is over the boundary.
use Rattle.std.specs.Prelude.{ℕ, ◌+◌, ◌*◌, Result, Ok, Err}
use Rattle.survey.specs.declared.answers.Place.{Place}
use Rattle.survey.specs.declared.answers.Place.TheVariants.{Nothing, Block, Group, Link}
use Rattle.survey.specs.declared.answers.Refusal.{Refusal}
use Rattle.survey.specs.declared.answers.Size.{Size}
use Rattle.survey.specs.Refusals.{Verdict, fine, refused}

-- 12.2: the sort of a place
abbrev pub sort_number : Place → ℕ
sort_number Nothing = 0
sort_number (Block k) = 1
sort_number (Group k) = 2
sort_number (Link k) = 3

-- 10.4: a place as a number is that of its block, group or link, and 0 if it is nothing.
abbrev pub place_number : Place → ℕ
place_number Nothing = 0
place_number (Block k) = k
place_number (Group k) = k
place_number (Link k) = k

-- 12.2, refused: the number, 256 times the sort and 65,536 times the place, added up
abbrev pub refusal_number : Refusal → ℕ
refusal_number r = r.number + 256 * sort_number r.place + 65_536 * place_number r.place

-- 12.2: a part refuses, or it has nothing to refuse. Its answer is a refusal, or else what the part answers.
abbrev pub verdict_of : {A : Type 0} → Result A Refusal → Verdict
verdict_of (Err r) = refused r
verdict_of (Ok a) = fine

-- 12.2, read: 65,536 times n and 4,294,967,296 times e, added up
abbrev pub reading_number : Result Size Refusal → ℕ
reading_number (Err r) = refusal_number r
reading_number (Ok size) = 65_536 * size.n + 4_294_967_296 * size.e

-- 12.2, chosen: 65,536 times the count of rounds
abbrev pub choice_number : Result ℕ Refusal → ℕ
choice_number (Err r) = refusal_number r
choice_number (Ok rounds) = 65_536 * rounds

-- 12.2, accepted: 0
abbrev pub judgement_number : Result (Unit {0}) Refusal → ℕ
judgement_number (Err r) = refusal_number r
judgement_number (Ok _) = 0
