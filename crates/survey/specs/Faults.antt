-- Specification 11, "Faults": the table of 11.1, row by row with the number and the sort of place, and which rows each part looks for.
use Rattle.std.specs.Prelude.{ℕ, ◌-◌, ◌%◌, ◌<◌, ◌≤◌, ◌≡◌, ◌⊎◌, List, [], ◌∷◌, ◌++◌, length, get_or}
use Rattle.survey.specs.Limits.{group_limit, link_limit, count_limit, amount_limit, block_bytes}
use Rattle.survey.specs.Survey.{Survey, Ascends, Cycle}
use Rattle.survey.specs.Sets.{Set, In, Out, D, dead_of}
use Rattle.survey.specs.Rounds.{weights}
use Rattle.survey.specs.Balance.{Amounts, BalanceAbove0, LargestSettled}
use Rattle.survey.specs.Words.{entries, survey_of, marked_set, amounts_of}
use Rattle.survey.specs.SurveyFile.{block_count, CheckAgrees, number_in, kind_in, kind_of, n_in, e_in, blocks_needed, file_limit, UnusedAreZero, survey_in}
use Rattle.survey.specs.Refusals.{Fault, whole, among, AllClear}

-- 11.1: a list of the call: how many whole entries it has, and how many it needs
pub record LentList : Type 0 where
  pub has : ℕ
  pub needs : ℕ

-- 11.1, row 1: a list of groups or of marks needs 128
abbrev pub group_list : ℕ → LentList
group_list k = record { has = k; needs = group_limit }

-- 11.1, row 1: a list of links or of amounts needs 1,024
abbrev pub link_list : ℕ → LentList
link_list k = record { has = k; needs = link_limit }

-- 11.1, row 1: some list has fewer than it needs
unfoldable pub OneShort : List LentList → Type 0
OneShort [] = ⊥
OneShort (l ∷ ls) = (l.has < l.needs) ⊎ OneShort ls

-- 1, nothing: a list of the call is too short.
abbrev pub too_short : List LentList → Fault
too_short ls = whole 1 (OneShort ls)

-- 2, nothing: the file is empty, or does not end with a whole block, or has more bytes than the largest.
abbrev pub bad_length : List ℕ → Fault
bad_length f = whole 2 ((length f ≡ 0) ⊎ ((0 < length f % block_bytes) ⊎ (file_limit < length f)))

-- 3, block: the check words are not those of the content.
abbrev pub bad_check : List ℕ → Fault
bad_check f = among 3 (block_count f) (λ b. CheckAgrees f b → ⊥)

-- 4, block: the number of the first block is not 0, or its kind is not 1.
abbrev pub bad_header : List ℕ → Fault
bad_header f = among 4 1 (λ b. (number_in f b ≡ 0) × (kind_in f b ≡ 1) → ⊥)

-- 5, nothing: n is 0 or too large, or e is too large.
abbrev pub bad_range : ℕ → ℕ → Fault
bad_range n e = whole 5 ((n < 1) ⊎ ((group_limit < n) ⊎ (link_limit < e)))

-- 6, nothing: the file has more blocks or fewer than n and e ask for.
abbrev pub bad_block_count : List ℕ → Fault
bad_block_count f = whole 6 (block_count f ≡ blocks_needed (n_in f) (e_in f) → ⊥)

-- 6, block, if it has as many: a number is not the one, or a kind not the one, that belongs there.
abbrev pub bad_kind : List ℕ → Fault
bad_kind f = among 6 (block_count f) (λ b. (number_in f b ≡ b) × (kind_in f b ≡ kind_of (n_in f) b) → ⊥)

-- 7, block: a content word without a use is not 0.
abbrev pub bad_unused : List ℕ → Fault
bad_unused f = among 7 (block_count f) (λ b. UnusedAreZero f (n_in f) (e_in f) b → ⊥)

-- 8, group: one of its two counts exceeds the limit.
abbrev pub bad_count : Survey → Fault
bad_count s = among 8 s.n (λ g. (count_limit < (s.group g).dead) ⊎ (count_limit < (s.group g).live))

-- 9, link: no group has the number that is its from, or its to.
abbrev pub bad_end : Survey → Fault
bad_end s = among 9 s.e (λ k. (s.n ≤ (s.link k).from) ⊎ (s.n ≤ (s.link k).to))

-- 10, link: it does not stand above its predecessor. The place is the later of the two.
abbrev pub bad_order : Survey → Fault
bad_order s = among 10 s.e (λ k. (0 < k) × (Ascends (s.link (k - 1)) (s.link k) → ⊥))

-- 11, nothing: there is a cycle.
abbrev pub any_cycle : Survey → Fault
any_cycle s = whole 11 (Cycle s)

-- 12, nothing: no group has anything dead.
abbrev pub no_dead : Survey → Fault
no_dead s = whole 12 ((g : ℕ) → g < s.n → dead_of s g ≡ 0)

-- 13, group: its mark is something else than 0 or 1.
abbrev pub bad_mark : Survey → List ℕ → Fault
bad_mark s m = among 13 s.n (λ g. (get_or m g 0 ≡ 0) ⊎ (get_or m g 0 ≡ 1) → ⊥)

-- 14, link: its amount exceeds the limit.
abbrev pub bad_amount : Survey → Amounts → Fault
bad_amount s a = among 14 s.e (λ k. amount_limit < a k)

-- 15, link: its to is claimed but its from is not.
abbrev pub not_closed : Survey → Set → Fault
not_closed s S = among 15 s.e (λ k. Out S (s.link k).from × In S (s.link k).to)

-- 16, nothing: nothing in the claimed set is dead.
abbrev pub nothing_dead : Survey → Set → Fault
nothing_dead s S = whole 16 (D s S ≡ 0)

-- 17, group: its balance is above 0.
abbrev pub balance_above : Survey → Set → Amounts → Fault
balance_above s S a = among 17 s.n (BalanceAbove0 s (weights s S) a)

-- 11.1: in the largest settled set, and left out by the claim
pub record LeftOut (s : Survey) (S : Set) (a : Amounts) (g : ℕ) : Type 0 where
  pub largest_set : Set
  pub largest : LargestSettled s (weights s S) a largest_set
  pub inside : In largest_set g
  pub outside : Out S g

-- 18, group: it is in the largest settled set, and the claim leaves it out.
abbrev pub not_largest : Survey → Set → Amounts → Fault
not_largest s S a = among 18 s.n (LeftOut s S a)

-- 8 to 12: what a survey is refused for, in a file or as lists
abbrev pub survey_faults : Survey → List Fault
survey_faults s = bad_count s ∷ bad_end s ∷ bad_order s ∷ any_cycle s ∷ no_dead s ∷ []

-- 5 and 8 to 12: of a survey given as lists
abbrev pub list_faults : Survey → List Fault
list_faults s = bad_range s.n s.e ∷ survey_faults s

-- 2 to 12: of a file
abbrev pub file_faults : List ℕ → List Fault
file_faults f =
    bad_length f ∷ bad_check f ∷ bad_header f ∷ bad_range (n_in f) (e_in f) ∷ bad_block_count f ∷ bad_kind f ∷ bad_unused f ∷ survey_faults (survey_in f)

-- 13 to 18: of a claim on an admitted survey; m are the marks
abbrev pub claim_faults : Survey → List ℕ → Amounts → List Fault
claim_faults s m a =
    bad_mark s m
    ∷ bad_amount s a
    ∷ not_closed s (marked_set m)
    ∷ nothing_dead s (marked_set m)
    ∷ balance_above s (marked_set m) a
    ∷ not_largest s (marked_set m) a
    ∷ []

-- 11.2: the reader looks for 1 to 12, of a file f and two lent lists.
abbrev pub reader_faults : List ℕ → List ℕ → List ℕ → List Fault
reader_faults f groups links = too_short (group_list (entries groups) ∷ link_list (entries links) ∷ []) ∷ file_faults f

-- 11.2: the lists that a call of chooser or checker lends, all of which 1 is about
abbrev pub call_lists : List ℕ → List ℕ → List ℕ → List ℕ → List LentList
call_lists groups links marks amounts =
    group_list (entries groups) ∷ link_list (entries links) ∷ group_list (length marks) ∷ link_list (entries amounts) ∷ []

-- 11.2: the chooser looks for 1, 5, 8 to 12.
abbrev pub chooser_faults : ℕ → ℕ → List ℕ → List ℕ → List ℕ → List ℕ → List Fault
chooser_faults n e groups links marks amounts = too_short (call_lists groups links marks amounts) ∷ list_faults (survey_of n e groups links)

-- 11.2: the checker looks for 1, 5, 8 to 18.
abbrev pub checker_faults : ℕ → ℕ → List ℕ → List ℕ → List ℕ → List ℕ → List Fault
checker_faults n e groups links marks amounts =
    too_short (call_lists groups links marks amounts)
    ∷ (list_faults (survey_of n e groups links) ++ claim_faults (survey_of n e groups links) marks (amounts_of amounts))

-- 11.3: a survey in a file is admitted if the file has no fault from 2 to 12,
pub record AdmittedFile (f : List ℕ) : Type 0 where
  pub clear : AllClear (file_faults f)

-- 11.3: and one given as lists if it has neither 5 nor any fault from 8 to 12.
pub record Admitted (s : Survey) : Type 0 where
  pub clear : AllClear (list_faults s)
