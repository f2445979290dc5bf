-- The rows of a claim, from what the looks find in the lists to what the definitions say of the survey.
use Prim.Native.Nat.{ℕ}
use native.Mathlib.Omega.{arith}
use mathlib.Core.Path.{◌≡◌, sym, ◌∙◌}
use mathlib.Core.List.{List}
use Rattle.survey.specs.Sets.{D}
use Rattle.survey.specs.Words.{survey_at, survey_of, marked_set, amounts_of}
use Rattle.survey.specs.Refusals.{Verdict, Clear, Lowest, Answers, fine, refused}
use Rattle.survey.specs.Answers.{verdict_of}
use Rattle.survey.specs.declared.answers.Refusal.{Refusal}
use Rattle.survey.proofs.Verdicts.{past, early, afterwards, fine_clear}
use Rattle.refusals.proofs.Looking.{stop_at, stop_whole, whole_clear, passed_on}
use Rattle.refusals.specs.Refused.{refusal_at, refusal_whole}
use Rattle.survey.specs.Faults.{bad_mark, bad_amount, not_closed, nothing_dead, claim_faults, chooser_faults}
use Rattle.survey.specs.Promises.{CheckerSays}
use Rattle.std.specs.Prelude.{Option, None, Some, Result}
use Rattle.std.specs.Result.{IsErrAnd}
use Rattle.refusals.specs.Searches.{Finds}
use Rattle.calls.specs.Calls.{AdmittedCall}
use Rattle.calls.proofs.CallLaws.{admitted_call}
use Rattle.weights.specs.Marked.{groups_of}
use Rattle.weights.proofs.MarkedLaws.{dead_alone}
use Rattle.balance.specs.Rule.{RuleAsks, rule_faults}
use Rattle.balance.proofs.Looks.{finds_same}
use Rattle.balance.proofs.Balancing.{marked_groups, link_from, link_to, from_below, to_below}
use Rattle.checker.specs.Claims.{mark_row, amount_row, closed_row, EndsMarked}

-- ---- 13 to 16

module _ (n e : ℕ) (groups links marks : List ℕ) where
  mark_row_lem : (r : Option ℕ) → Finds (mark_row n marks) r → Finds (bad_mark (survey_of n e groups links) marks) r
  unfolding survey_at
  mark_row_lem r x = x

  closed_row_lem : (r : Option ℕ) → Finds (closed_row e links marks) r → Finds (not_closed (survey_of n e groups links) (marked_set marks)) r
  unfolding survey_at
  closed_row_lem r x =
      finds_same 15 e
      (λ k l y. (rw (link_from n e groups links k l) at y.0, rw (link_to n e groups links k l) at y.1))
      (λ k l y. (rw (link_from n e groups links k l) y.0, rw (link_to n e groups links k l) y.1))
      r x

  none_dead : {d : ℕ} → d ≡ D (groups_of n groups) (marked_set marks) → d ≡ 0 → (nothing_dead (survey_of n e groups links) (marked_set marks)).at 0
  none_dead is z = dead_alone n e groups links (marked_set marks) ∙ sym is ∙ z

  some_dead_lem : {d : ℕ} → d ≡ D (groups_of n groups) (marked_set marks) → (d ≡ 0 → ⊥) → (nothing_dead (survey_of n e groups links) (marked_set marks)).at 0 → ⊥
  some_dead_lem is not z = not (is ∙ sym (dead_alone n e groups links (marked_set marks)) ∙ z)

amount_row_lem :
    (n e : ℕ) (groups links amounts : List ℕ) (r : Option ℕ) → Finds (amount_row e amounts) r → Finds (bad_amount (survey_of n e groups links) (amounts_of amounts)) r
unfolding survey_at
amount_row_lem n e groups links amounts r x = x

-- At which row the answer is known, each look's finding said of the survey.
module _ (n e : ℕ) (groups links marks amounts : List ℕ) where
  pub mark_refused :
      {g : ℕ} {r : Refusal} → Lowest (mark_row n marks) g → r ≡ refusal_at 13 g
      → Answers (claim_faults (survey_of n e groups links) marks (amounts_of amounts)) (refused r)
  mark_refused {g} low is = stop_at (mark_row_lem n e groups links marks (Some g) low) is

  module _ (m : Clear (mark_row n marks)) where
    marks_good : Clear (bad_mark (survey_of n e groups links) marks)
    marks_good = mark_row_lem n e groups links marks None m

    pub amount_refused :
        {k : ℕ} {r : Refusal} → Lowest (amount_row e amounts) k → r ≡ refusal_at 14 k
        → Answers (claim_faults (survey_of n e groups links) marks (amounts_of amounts)) (refused r)
    amount_refused {k} low is = past marks_good (stop_at (amount_row_lem n e groups links amounts (Some k) low) is)

    module _ (a : Clear (amount_row e amounts)) where
      amounts_good : Clear (bad_amount (survey_of n e groups links) (amounts_of amounts))
      amounts_good = amount_row_lem n e groups links amounts None a

      pub link_refused :
          {k : ℕ} {r : Refusal} → Lowest (closed_row e links marks) k → r ≡ refusal_at 15 k
          → Answers (claim_faults (survey_of n e groups links) marks (amounts_of amounts)) (refused r)
      link_refused {k} low is = past marks_good (past amounts_good (stop_at (closed_row_lem n e groups links marks (Some k) low) is))

      module _ (o : Clear (closed_row e links marks)) {d : ℕ} (is : d ≡ D (groups_of n groups) (marked_set marks)) where
        closed : Clear (not_closed (survey_of n e groups links) (marked_set marks))
        closed = closed_row_lem n e groups links marks None o

        pub nothing_refused : {r : Refusal} → d ≡ 0 → r ≡ refusal_whole 16 → Answers (claim_faults (survey_of n e groups links) marks (amounts_of amounts)) (refused r)
        nothing_refused z k = past marks_good (past amounts_good (past closed (stop_whole (none_dead n e groups links marks is z) k)))

        pub rule_answers :
            {v : Verdict} → (d ≡ 0 → ⊥) → Answers (rule_faults (survey_of n e groups links) (marked_set marks) (amounts_of amounts)) v
            → Answers (claim_faults (survey_of n e groups links) marks (amounts_of amounts)) v
        rule_answers not x = past marks_good (past amounts_good (past closed (past (whole_clear (some_dead_lem n e groups links marks is not)) x)))

-- ---- what the steps ask, of an admitted call

module _ {n e : ℕ} {groups links marks amounts : List ℕ} (x : AdmittedCall n e groups links marks amounts) where
  pub ends_marked : EndsMarked e links marks
  ends_marked =
      record {
        long = x.links_long;
        from = λ k l. omega (arith, from_below n e groups links x.sound k l, x.marks_long);
        to = λ k l. omega (arith, to_below n e groups links x.sound k l, x.marks_long);
      }

  pub rule_asks : {d : ℕ} → Clear (amount_row e amounts) → d ≡ D (groups_of n groups) (marked_set marks) → RuleAsks n e groups links marks amounts d
  rule_asks clear is = record { call = x; small = λ k l. omega (arith, clear.none k l); dead = is }

pub ruleset claim_rows = (marked_groups, ends_marked, rule_asks, mark_refused, amount_refused, link_refused, nothing_refused, rule_answers)

-- ---- the call's faults, and then the claim's

module _ (n e : ℕ) (groups links marks amounts : List ℕ) where
  pub call_refused :
      {x : Refusal} (r : Result (Unit {0}) Refusal) → IsErrAnd r (λ y. y ≡ x) → Answers (chooser_faults n e groups links marks amounts) (refused x)
      → CheckerSays n e groups links marks amounts r
  call_refused r is a =
      record { verdict = passed_on r is (early (chooser_faults n e groups links marks amounts) (claim_faults (survey_of n e groups links) marks (amounts_of amounts)) a) }

  module _ (a : Answers (chooser_faults n e groups links marks amounts) fine) where
    pub call_admitted : AdmittedCall n e groups links marks amounts
    call_admitted = admitted_call groups links marks amounts n e a

    pub claim_answers :
        {r : Result (Unit {0}) Refusal} → Answers (claim_faults (survey_of n e groups links) marks (amounts_of amounts)) (verdict_of r)
        → CheckerSays n e groups links marks amounts r
    claim_answers x =
        let call = chooser_faults n e groups links marks amounts in
        record { verdict = afterwards call (fine_clear call a) x }
