-- Specification 15.2: the cases that are proved of the definitions, by one assertion over their one list; and table 1, by an assertion of its
-- own.
use mathlib.Core.Path.{◌≡◌, refl}
use mathlib.Core.Bool.{Bool, true, false, not, ◌&&◌, ◌||◌}
use mathlib.Core.List.{List, [], ◌∷◌, ◌++◌}
use mathlib.Core.Logic.{◌⊎◌, inl, inr}
use lib.Dec.{eqb}
use Rattle.survey.specs.Survey.{Survey}
use Rattle.survey.specs.Sets.{Set, Same, Closed, all_groups, sum, total, D, L}
use Rattle.survey.specs.Balance.{gets, pays}
use Rattle.survey.specs.Faults.{list_faults, claim_faults}
use Rattle.survey.specs.Refusals.{fine}
use Rattle.survey.specs.Drawings.{set_of, amounts_in, Drawing, admits, picks, sums, rounds, claim, Holds, drawings, f2, Row, table1, RowHolds}
use Rattle.survey.specs.Sound.{Inside}
use Rattle.survey.proofs.Reaching.{somewhere, any_link, via, has_cycle}
use Rattle.survey.proofs.SameSets.{same_trans, closed_same, same_sym}
use Rattle.survey.proofs.Verdicts.{fine_clear, clear_fine}
use Rattle.survey.proofs.Deciding.{Decides, told_yes, told_no, told_iff, both, either, implied, equal, all_below}
use Rattle.survey.proofs.AllSets.{find_from, find_set, any_set, every_set, every_set_lem}
use Rattle.survey.proofs.SetTests.{inside_test, inside_told, contains_test, same_test, same_told, closed_test, closed_told, eligible_test}
use Rattle.survey.proofs.SetTests.{candidate_test, best_test, pick_test, pick_told, greatest_test, heaviest_test, rounds_test, rounds_told}
use Rattle.survey.proofs.ComputedVerdicts.{lowest_below, told_verdict, told_append, verdict_test, answers_told}
use Rattle.survey.proofs.ClaimTests.{settled_test, largest_set, survey_tests, survey_rows_told, claim_tests, claim_rows_told}

-- ---- lists

-- P holds of each entry.
abbrev pub All : {A : Type 0} → (A → Type 0) → List A → Type 0
All P [] = Unit {0}
All P (x ∷ xs) = P x × All P xs

-- P holds of some entry.
abbrev pub Some : {A : Type 0} → (A → Type 0) → List A → Type 0
Some P [] = ⊥
Some P (x ∷ xs) = P x ⊎ Some P xs

unfoldable pub all_test : {A : Type 0} → (A → Bool) → List A → Bool
all_test t [] = true
all_test t (x ∷ xs) = t x && all_test t xs

unfoldable pub some_test : {A : Type 0} → (A → Bool) → List A → Bool
some_test t [] = false
some_test t (x ∷ xs) = t x || some_test t xs

module _ {A : Type 0} {P : A → Type 0} {t : A → Bool} (told : (x : A) → Decides (P x) (t x)) where
  pub all_told : (xs : List A) → Decides (All P xs) (all_test t xs)
  unfolding all_test
  all_told [] = told_yes tt
  all_told (x ∷ xs) = both (told x) (λ z. all_told xs)

  pub some_told : (xs : List A) → Decides (Some P xs) (some_test t xs)
  unfolding some_test
  some_told [] = told_no (λ x. x)
  some_told (x ∷ xs) = either (told x) (some_told xs)

module _ {A : Type 0} {P Q : A → Type 0} (f : (x : A) → P x → Q x) where
  all_map : (xs : List A) → All P xs → All Q xs
  all_map [] z = tt
  all_map (x ∷ xs) z = (f x z.0, all_map xs z.1)

  some_map : (xs : List A) → Some P xs → Some Q xs
  some_map [] z = z
  some_map (x ∷ xs) (inl p) = inl (f x p)
  some_map (x ∷ xs) (inr z) = inr (some_map xs z)

-- ---- what a drawing says

abbrev pub survey_drawn : Drawing → Survey
survey_drawn (admits s) = s
survey_drawn (picks s groups) = s
survey_drawn (sums s groups dead live) = s
survey_drawn (rounds s k groups) = s
survey_drawn (claim s marks amounts v) = s

-- Its links end in groups, so that all its sets can be looked through.
abbrev pub Fit : Drawing → Type 0
Fit d = Inside (survey_drawn d)

unfoldable pub says_test : Drawing → Bool
says_test (admits s) = verdict_test (told_verdict (list_faults s) (survey_tests s)) fine
says_test (picks s groups) = pick_test s (set_of groups)
says_test (sums s groups dead live) = eqb (D s (set_of groups)) dead && eqb (L s (set_of groups)) live
says_test (rounds s k groups) = rounds_test s k all_groups (set_of groups)
says_test (claim s marks amounts v) =
    verdict_test (told_verdict (list_faults s ++ claim_faults s marks (amounts_in amounts)) (survey_tests s ++ claim_tests s marks (amounts_in amounts))) v

pub says_told : (d : Drawing) → Fit d → Decides (Holds d) (says_test d)
unfolding says_test
says_told (admits s) i =
    told_iff (λ a. record { clear = fine_clear (list_faults s) a }) (λ x. clear_fine (list_faults s) x.clear) (answers_told (survey_rows_told i) fine)
says_told (picks s groups) i = pick_told i (set_of groups)
says_told (sums s groups dead live) i = both (equal (D s (set_of groups)) dead) (λ z. equal (L s (set_of groups)) live)
says_told (rounds s k groups) i = rounds_told i k all_groups (set_of groups)
says_told (claim s marks amounts v) i = answers_told (told_append (survey_rows_told i) (claim_rows_told i marks (amounts_in amounts))) v

-- The drawing is right.
unfoldable pub right : Drawing → Bool
right d = inside_test (survey_drawn d) && says_test d

right_told : (d : Drawing) → Decides (Fit d × Holds d) (right d)
unfolding right
right_told d = both (inside_told (survey_drawn d)) (says_told d)

pub right_holds : (d : Drawing) → right d ≡ true → Holds d
right_holds d h = ((right_told d).so h).1

pub wrong_fails : (d : Drawing) → Fit d → right d ≡ false → Holds d → ⊥
wrong_fails d i h x = (right_told d).not_so h (i, x)

-- ---- the assertion over the list

unfoldable pub all_right : List Drawing → Bool
all_right ds = all_test right ds

pub all_right_lem : (ds : List Drawing) → all_right ds ≡ true → All Holds ds
unfolding all_right
all_right_lem ds h = all_map (λ d (z : Fit d × Holds d). z.1) ds ((all_told right_told ds).so h)

drawings_right : all_right drawings ≡ true
unfolding all_right all_test right says_test inside_test contains_test same_test closed_test eligible_test
    candidate_test best_test pick_test greatest_test heaviest_test rounds_test
    lowest_below told_verdict verdict_test settled_test largest_set survey_tests claim_tests
    somewhere any_link via has_cycle gets pays sum total all_below find_from find_set any_set every_set
drawings_right = refl

pub drawings_hold : All Holds drawings
drawings_hold = all_right_lem drawings drawings_right

-- ---- table 1

-- Each row is right, and each closed set has a row.
pub record TableHolds (s : Survey) (rows : List Row) : Type 0 where
  pub right : All (RowHolds s) rows
  pub complete : (S : Set) → Closed s S → Some (λ r. Same s S (set_of r.groups)) rows

unfoldable pub row_test : Survey → Row → Bool
row_test s r = closed_test s (set_of r.groups) && (eqb (D s (set_of r.groups)) r.dead && eqb (L s (set_of r.groups)) r.live)

row_told : (s : Survey) (r : Row) → Decides (RowHolds s r) (row_test s r)
unfolding row_test
row_told s r =
    told_iff (λ z. record { closed = z.0; dead = z.1.0; live = z.1.1 }) (λ x. (x.closed, (x.dead, x.live)))
    (both (closed_told s S) (λ z. both (equal (D s S) r.dead) (λ z. equal (L s S) r.live)))
  where
    S : Set
    S = set_of r.groups

unfoldable pub table_test : Survey → List Row → Bool
table_test s rows = all_test (row_test s) rows && every_set s (λ S. not (closed_test s S) || some_test (λ r. same_test s S (set_of r.groups)) rows)

pub table_told : {s : Survey} → Inside s → (rows : List Row) → Decides (TableHolds s rows) (table_test s rows)
unfolding table_test
table_told {s} i rows =
    told_iff (λ z. record { right = z.0; complete = z.1 }) (λ x. (x.right, x.complete))
    (both (all_told (row_told s) rows)
    (λ z. every_set_lem (λ A B e f c. some_map (λ r d. same_trans (same_sym e) d) rows (f (closed_same i (same_sym e) c)))
    (λ S. implied (closed_told s S) (λ c. some_told (λ r. same_told s S (set_of r.groups)) rows))))

table1_right : inside_test f2 && table_test f2 table1 ≡ true
unfolding table_test row_test all_test some_test inside_test closed_test same_test contains_test sum total all_below find_from find_set any_set every_set
table1_right = refl

pub table1_holds : TableHolds f2 table1
table1_holds = ((both (inside_told f2) (λ i. table_told i table1)).so table1_right).1
