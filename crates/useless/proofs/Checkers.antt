-- Specification 15.5, useless checkers: one that accepts everything, and one that refuses everything. Both fail demand 3.
use Prim.Native.Nat.{ℕ}
use mathlib.Core.Path.{◌≡◌, refl, sym, subst}
use mathlib.Core.Bool.{Bool, true, ◌&&◌}
use mathlib.Core.List.{List, [], ◌∷◌, ◌++◌}
use Rattle.std.specs.Prelude.{Result, Ok, Err}
use Rattle.survey.specs.declared.answers.Place.TheVariants.{Group}
use Rattle.survey.specs.declared.answers.Refusal.{Refusal}
use Rattle.survey.specs.Survey.{Survey}
use Rattle.survey.specs.Sets.{sum, total}
use Rattle.survey.specs.Balance.{gets, pays}
use Rattle.survey.specs.Words.{amounts_of}
use Rattle.survey.specs.Refusals.{Verdict, fine, refused, Answers}
use Rattle.survey.specs.Faults.{list_faults, claim_faults, checker_faults}
use Rattle.survey.specs.Promises.{CheckerSays}
use Rattle.survey.specs.Answers.{verdict_of}
use Rattle.survey.specs.Drawings.{f2, two_alike, refused_at}
use Rattle.survey.proofs.Reaching.{somewhere, any_link, via, has_cycle}
use Rattle.survey.proofs.Deciding.{both, all_below}
use Rattle.survey.proofs.AllSets.{find_from, find_set, any_set}
use Rattle.survey.proofs.SetTests.{inside_test, inside_told, closed_test, eligible_test}
use Rattle.survey.proofs.Verdicts.{answers_one, past}
use Rattle.survey.proofs.ComputedVerdicts.{lowest_below, told_verdict, verdict_test, told_append, answers_told}
use Rattle.survey.proofs.ClaimTests.{settled_test, largest_set, survey_tests, survey_rows_told, claim_tests, claim_rows_told}
use Rattle.drawn.proofs.Calls.{Lends, bytes_of}

-- The table's verdict on the claim of these marks and amounts, computed.
unfoldable judged_test : Survey → List ℕ → List ℕ → Verdict → Bool
judged_test s marks amounts v =
    inside_test s
    && verdict_test (told_verdict (list_faults s ++ claim_faults s marks (amounts_of amounts)) (survey_tests s ++ claim_tests s marks (amounts_of amounts))) v

judged : (s : Survey) (marks amounts : List ℕ) (v : Verdict) → judged_test s marks amounts v ≡ true → Answers (list_faults s ++ claim_faults s marks (amounts_of amounts)) v
unfolding judged_test
judged s marks amounts v h =
    ((both (inside_told s) (λ i. answers_told (told_append (survey_rows_told i) (claim_rows_told i marks (amounts_of amounts))) v)).so h).1

-- On a call that lends s, it is the verdict that the checker's promise allows.
module _ {s : Survey} {groups links marks amounts : List ℕ} (c : Lends s groups links marks amounts) where
  pub judged_so :
      {v : Verdict} → Answers (list_faults s ++ claim_faults s marks (amounts_of amounts)) v → {r : Result (Unit {0}) Refusal}
      → CheckerSays s.n s.e groups links marks amounts r → verdict_of r ≡ v
  judged_so {v} a x =
      answers_one (checker_faults s.n s.e groups links marks amounts) x.verdict
      (past c.long (subst (λ (t : Survey). Answers (list_faults t ++ claim_faults t marks (amounts_of amounts)) v) (sym c.survey) a))

accepted_only : (r : Result (Unit {0}) Refusal) → verdict_of r ≡ fine → r ≡ Ok tt
accepted_only (Err x) e = cc
accepted_only (Ok tt) e = refl

refused_only : (r : Result (Unit {0}) Refusal) {x : Refusal} → verdict_of r ≡ refused x → r ≡ Err x
refused_only (Err y) e = cc
refused_only (Ok tt) e = cc

-- Amounts that fit a byte, 8 bytes each.
abbrev pub amount_bytes : List ℕ → List ℕ
amount_bytes a = bytes_of (λ (x : ℕ). x) (λ (x : ℕ). 0) a

-- ---- on F2

f2_judged : (markTail amountTail : List ℕ) → Answers (list_faults f2 ++ claim_faults f2 (0 ∷ 1 ∷ 0 ∷ 0 ∷ 1 ∷ markTail)
    (amounts_of (amount_bytes (0 ∷ 0 ∷ 0 ∷ 18 ∷ []) ++ amountTail))) fine
unfolding judged_test inside_test closed_test eligible_test lowest_below told_verdict verdict_test settled_test largest_set survey_tests claim_tests
    somewhere any_link via has_cycle gets pays sum total all_below find_from find_set any_set
f2_judged markTail amountTail = judged f2 (0 ∷ 1 ∷ 0 ∷ 0 ∷ 1 ∷ markTail) (amount_bytes (0 ∷ 0 ∷ 0 ∷ 18 ∷ []) ++ amountTail) fine refl

-- Amounts 0, 0, 0, 18 are accepted, in lists that go on in any way: no allowed answer is anything else.
pub f2_accepted :
    {groups links markTail amountTail : List ℕ}
    → Lends f2 groups links (0 ∷ 1 ∷ 0 ∷ 0 ∷ 1 ∷ markTail) (amount_bytes (0 ∷ 0 ∷ 0 ∷ 18 ∷ []) ++ amountTail) → {r : Result (Unit {0}) Refusal}
    → CheckerSays 5 4 groups links (0 ∷ 1 ∷ 0 ∷ 0 ∷ 1 ∷ markTail) (amount_bytes (0 ∷ 0 ∷ 0 ∷ 18 ∷ []) ++ amountTail) r → r ≡ Ok tt
f2_accepted {groups} {links} {markTail} {amountTail} c {r} x = accepted_only r (judged_so c (f2_judged markTail amountTail) x)

-- One that refuses everything: here no refusal is allowed.
pub always_no :
    {groups links markTail amountTail : List ℕ}
    → Lends f2 groups links (0 ∷ 1 ∷ 0 ∷ 0 ∷ 1 ∷ markTail) (amount_bytes (0 ∷ 0 ∷ 0 ∷ 18 ∷ []) ++ amountTail) → {x : Refusal}
    → CheckerSays 5 4 groups links (0 ∷ 1 ∷ 0 ∷ 0 ∷ 1 ∷ markTail) (amount_bytes (0 ∷ 0 ∷ 0 ∷ 18 ∷ []) ++ amountTail) (Err x) → ⊥
always_no c x = cc (f2_accepted c x)

-- ---- on the two groups 1:1

two_judged : (markTail amounts : List ℕ) → Answers (list_faults two_alike ++ claim_faults two_alike (1 ∷ 0 ∷ markTail) (amounts_of amounts)) (refused_at 18 (Group 1))
unfolding judged_test inside_test closed_test eligible_test lowest_below told_verdict verdict_test settled_test largest_set survey_tests claim_tests
    somewhere any_link via has_cycle gets pays sum total all_below find_from find_set any_set
two_judged markTail amounts = judged two_alike (1 ∷ 0 ∷ markTail) amounts (refused_at 18 (Group 1)) refl

-- The claim {0} is refused 18 at group 1: no allowed answer is anything else.
pub two_refused :
    {groups links markTail amounts : List ℕ} → Lends two_alike groups links (1 ∷ 0 ∷ markTail) amounts → {r : Result (Unit {0}) Refusal}
    → CheckerSays 2 0 groups links (1 ∷ 0 ∷ markTail) amounts r → r ≡ Err (record { number = 18; place = Group 1 })
two_refused {groups} {links} {markTail} {amounts} c {r} x = refused_only r (judged_so c (two_judged markTail amounts) x)

-- One that accepts everything: here it may not.
pub always_yes :
    {groups links markTail amounts : List ℕ} → Lends two_alike groups links (1 ∷ 0 ∷ markTail) amounts
    → CheckerSays 2 0 groups links (1 ∷ 0 ∷ markTail) amounts (Ok tt) → ⊥
always_yes c x = cc (two_refused c x)
