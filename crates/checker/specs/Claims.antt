-- The rows of a claim, cut to what each look needs.
use Rattle.std.specs.Prelude.{ℕ, ◌*◌, ◌≤◌, ◌<◌, List, length}
use Rattle.survey.specs.Limits.{entry_bytes}
use Rattle.survey.specs.Survey.{Survey}
use Rattle.survey.specs.Sets.{In, Out}
use Rattle.survey.specs.Words.{link_at, lent, marked_set, amounts_of}
use Rattle.survey.specs.Refusals.{Fault, among}
use Rattle.survey.specs.Faults.{bad_mark, bad_amount}
use Rattle.entries.specs.Entries.{EntryWithin}

-- A survey of n groups and e links, of which no more is said: marks and amounts are looked at by their numbers alone.
abbrev pub sized : ℕ → ℕ → Survey
sized n e =
    record { n = n; e = e; group = λ g. record { dead = 0; live = 0 }; link = λ k. record { from = 0; to = 0 } }

-- 13
abbrev pub mark_row : ℕ → List ℕ → Fault
mark_row n marks = bad_mark (sized n 0) marks

-- 14
abbrev pub amount_row : ℕ → List ℕ → Fault
amount_row e amounts = bad_amount (sized 0 e) (amounts_of amounts)

-- 15: from out, to in, of link k as it stands in the list
abbrev pub Open : List ℕ → List ℕ → ℕ → Type 0
Open links marks k = Out (marked_set marks) (link_at links lent k).from × In (marked_set marks) (link_at links lent k).to

-- 15
abbrev pub closed_row : ℕ → List ℕ → List ℕ → Fault
closed_row e links marks = among 15 e (Open links marks)

-- link k stands in the list, and both its ends have their mark
pub record LinkMarked (links marks : List ℕ) (k : ℕ) : Type 0 where
  pub entry : EntryWithin links lent k
  pub from : (link_at links lent k).from < length marks
  pub to : (link_at links lent k).to < length marks

-- each of e links does
pub record EndsMarked (e : ℕ) (links marks : List ℕ) : Type 0 where
  pub long : entry_bytes * e ≤ length links
  pub from : (k : ℕ) → k < e → (link_at links lent k).from < length marks
  pub to : (k : ℕ) → k < e → (link_at links lent k).to < length marks
