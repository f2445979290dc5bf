-- Specification 13, "Promises": what reader, chooser and checker promise, whole. Whatever goes in, and also where it is refused, the answer is fixed and
-- every byte of every lent list after the call.
use Rattle.std.specs.Prelude.{ℕ, ◌+◌, ◌*◌, ◌/◌, ◌%◌, ◌≤◌, ◌<◌, ◌≡◌, ◌⊎◌, List, length, get_or, Result, Ok, Err}
use Rattle.survey.specs.declared.answers.Refusal.{Refusal}
use Rattle.survey.specs.declared.answers.Size.{Size}
use Rattle.survey.specs.declared.stands.Stand.{Stand}
use Rattle.survey.specs.Limits.{entry_bytes, amount_limit}
use Rattle.survey.specs.Survey.{Survey}
use Rattle.survey.specs.Pick.{IsPick}
use Rattle.survey.specs.Rounds.{RoundsOf}
use Rattle.survey.specs.Balance.{Accepted}
use Rattle.survey.specs.Words.{stands_at, survey_of, marked_set, amounts_of}
use Rattle.survey.specs.SurveyFile.{n_in, e_in, first_group_block, first_link_block, in_blocks}
use Rattle.survey.specs.Refusals.{Answers}
use Rattle.survey.specs.Faults.{reader_faults, chooser_faults, checker_faults}
use Rattle.survey.specs.Answers.{verdict_of}

-- 13.3: the first k entries of the list are afterwards, byte for byte, those that stand in a file, and all bytes after them are as they were.
pub record Filled (before after : List ℕ) (k : ℕ) (f : List ℕ) (w : Stand) : Type 0 where
  pub long : length after ≡ length before
  pub first : (i : ℕ) → i < entry_bytes * k → get_or after i 0 ≡ get_or f (stands_at w (i / entry_bytes) + i % entry_bytes) 0
  pub rest : (i : ℕ) → entry_bytes * k ≤ i → get_or after i 0 ≡ get_or before i 0

-- 13.2 and 13.3: after a refusal both lists are as they were lent; else the answer is n and e, and both lists are filled.
abbrev pub ReadLists : List ℕ → List ℕ → List ℕ → Result Size Refusal → List ℕ → List ℕ → Type 0
ReadLists f groups links (Err r) groups' links' = (groups' ≡ groups) × (links' ≡ links)
ReadLists f groups links (Ok size) groups' links' =
    (size.n ≡ n_in f)
    × (size.e ≡ e_in f)
    × Filled groups groups' (n_in f) f (in_blocks first_group_block)
    × Filled links links' (e_in f) f (in_blocks (first_link_block (n_in f)))

-- 13.3: the reader's promise, of a file and two lent lists
pub record ReaderSays (f groups links : List ℕ) (r : Result Size Refusal) (groups' links' : List ℕ) : Type 0 where
  pub verdict : Answers (reader_faults f groups links) (verdict_of r)
  pub lists : ReadLists f groups links r groups' links'

-- 13.4: the first n marks are 0 or 1 each, and all bytes after them are as they were.
pub record Marked (before after : List ℕ) (n : ℕ) : Type 0 where
  pub long : length after ≡ length before
  pub bits : (g : ℕ) → g < n → (get_or after g 0 ≡ 0) ⊎ (get_or after g 0 ≡ 1)
  pub rest : (g : ℕ) → n ≤ g → get_or after g 0 ≡ get_or before g 0

-- 13.4: the first e amounts are within their limit, and all bytes after them are as they were.
pub record AmountsPut (before after : List ℕ) (e : ℕ) : Type 0 where
  pub long : length after ≡ length before
  pub small : (k : ℕ) → k < e → amounts_of after k ≤ amount_limit
  pub rest : (i : ℕ) → entry_bytes * e ≤ i → get_or after i 0 ≡ get_or before i 0

-- 13.4: the marks are those of the pick, the answer is its count of rounds, and marks and amounts make a claim that is accepted.
pub record Chooses (s : Survey) (rounds : ℕ) (marks amounts marks' amounts' : List ℕ) : Type 0 where
  pub marked : Marked marks marks' s.n
  pub put : AmountsPut amounts amounts' s.e
  pub pick : IsPick s (marked_set marks')
  pub counted : RoundsOf s rounds (marked_set marks')
  pub accepted : Accepted s (marked_set marks') (amounts_of amounts')

-- 13.2 and 13.4: after a refusal both lists are as they were lent.
abbrev pub ChosenLists : Survey → List ℕ → List ℕ → Result ℕ Refusal → List ℕ → List ℕ → Type 0
ChosenLists s marks amounts (Err r) marks' amounts' = (marks' ≡ marks) × (amounts' ≡ amounts)
ChosenLists s marks amounts (Ok rounds) marks' amounts' = Chooses s rounds marks amounts marks' amounts'

-- 13.4: the chooser's promise, of n, e and four lent lists, of which it may write two
pub record ChooserSays (n e : ℕ) (groups links marks amounts : List ℕ) (r : Result ℕ Refusal) (marks' amounts' : List ℕ) : Type 0 where
  pub verdict : Answers (chooser_faults n e groups links marks amounts) (verdict_of r)
  pub lists : ChosenLists (survey_of n e groups links) marks amounts r marks' amounts'

-- 13.5: the checker's promise. It writes nowhere, so its answer is all.
pub record CheckerSays (n e : ℕ) (groups links marks amounts : List ℕ) (r : Result (Unit {0}) Refusal) : Type 0 where
  pub verdict : Answers (checker_faults n e groups links marks amounts) (verdict_of r)
