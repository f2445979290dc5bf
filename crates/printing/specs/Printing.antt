-- Specification 14, "Printing": the text of a survey file.
use Rattle.std.specs.Prelude.{ℕ, zero, suc, ◌≡◌, cond, List, [], ◌++◌, length, drop}
use Rattle.survey.specs.declared.answers.Refusal.{Refusal}
use Rattle.survey.specs.Survey.{Survey}
use Rattle.survey.specs.Sets.{Set, total, D, L}
use Rattle.survey.specs.Pick.{IsPick}
use Rattle.survey.specs.Rounds.{RoundsOf}
use Rattle.survey.specs.SurveyFile.{survey_in}
use Rattle.survey.specs.Refusals as refusals
use Rattle.survey.specs.Refusals.{Answers}
use Rattle.survey.specs.Faults.{file_faults, AdmittedFile}
use Rattle.survey.specs.Answers.{place_number}
use Rattle.printing.specs.Texts.{line_feed, space, survey_word, chosen_word, dead_word, live_word, rounds_word, refused_word, decimal, named}

-- 14.2, the first line: the survey's n and e
abbrev pub survey_line : ℕ → ℕ → List ℕ
survey_line n e = named survey_word n ++ named space e ++ line_feed

-- 14.2, the second line: how many groups, their sums, and the count of rounds
abbrev pub chosen_line : ℕ → ℕ → ℕ → ℕ → List ℕ
chosen_line k d l r = named chosen_word k ++ named dead_word d ++ named live_word l ++ named rounds_word r ++ line_feed

-- 14.2: k says how many groups the pick has.
abbrev pub size : Survey → Set → ℕ
size s S = total s (λ g. 1) S

-- 14.2: a group's number on a line of its own, where the group is picked
abbrev pub number_line : Set → ℕ → List ℕ
number_line P g = cond (P g) (decimal g ++ line_feed) []

-- 14.2: the numbers of the picked groups, lowest first
unfoldable pub number_lines : ℕ → Set → List ℕ
number_lines zero P = []
number_lines (suc g) P = number_lines g P ++ number_line P g

-- 14.2: the three together, of a survey whose pick is P, found in so many rounds
abbrev pub pick_text : Survey → Set → ℕ → List ℕ
pick_text s P rounds = survey_line s.n s.e ++ chosen_line (size s P) (D s P) (L s P) rounds ++ number_lines s.n P

-- 14.3: the one line of a refusal, with its number and its place as in 10.4
abbrev pub refused_line : Refusal → List ℕ
refused_line r = named refused_word r.number ++ named space (place_number r.place) ++ line_feed

-- 14.2 and 14.3: what is printed of a file, the pick of its survey where it is admitted, or else its refusal
pub data Prints (f : List ℕ) : List ℕ → Type 0 where
  picked : {P : Set} {rounds : ℕ} → AdmittedFile f → IsPick (survey_in f) P → RoundsOf (survey_in f) rounds P → Prints f (pick_text (survey_in f) P rounds)
  refused : {r : Refusal} → Answers (file_faults f) (refusals.refused r) → Prints f (refused_line r)

-- Room for whatever is printed of a file: the text of a pick has at most 470 bytes, and a refusal fewer.
abbrev pub text_limit : ℕ
text_limit = 1_024

-- The list after: its first r bytes are what is printed of the file, and the rest of it is as before.
pub record Printed (f before : List ℕ) (r : ℕ) (after : List ℕ) : Type 0 where
  pub text : List ℕ
  pub prints : Prints f text
  pub long : r ≡ length text
  pub is : after ≡ text ++ drop r before
