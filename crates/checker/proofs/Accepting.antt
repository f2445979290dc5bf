-- What the checker's promise comes to: what it accepts is the pick, it accepts exactly what the balance rule accepts, and refusal 18 always has
-- its place.
use Prim.Native.Nat.{ℕ}
use native.Mathlib.Decide.{ℕ_discrete}
use native.Mathlib.Omega.{arith}
use mathlib.Core.Path.{◌≡◌}
use mathlib.Core.Logic.{◌⊎◌, inl, inr, ⊎_elim}
use mathlib.Core.List.{List, [], ◌∷◌, ◌++◌}
use lib.ListN.{get_or}
use Rattle.std.specs.Prelude.{Result, Ok, Err}
use Rattle.survey.specs.declared.answers.Refusal.{Refusal}
use Rattle.survey.specs.Survey.{Survey}
use Rattle.survey.specs.Sets.{Set, Eligible}
use Rattle.survey.specs.Pick.{IsPick}
use Rattle.survey.specs.Balance.{Amounts, Accepted}
use Rattle.survey.specs.Words.{survey_at, survey_of, marked_set, amounts_of}
use Rattle.survey.specs.Refusals.{Verdict, refused, Fault, Clear, Given, AllClear, Answers}
use Rattle.survey.specs.Faults.{bad_mark, bad_amount, not_closed, nothing_dead, balance_above, not_largest, list_faults, claim_faults, chooser_faults, checker_faults}
use Rattle.survey.specs.Answers.{verdict_of}
use Rattle.survey.specs.Promises.{CheckerSays}
use Rattle.survey.proofs.Verdicts.{past, none_left, clear_fine, fine_clear, clear_parts, afterwards}
use Rattle.survey.proofs.Small.{look, look_on}
use Rattle.survey.specs.Sound.{Inside}
use Rattle.survey.proofs.Totals.{by_test}
use Rattle.survey.proofs.BalanceRule.{claimed_within, accepted_pick}
use Rattle.survey.proofs.Claims.{ClaimClear, clear_accepted, accepted_clear}
use Rattle.refusals.proofs.Looking.{whole_clear}
use Rattle.calls.specs.Calls.{AdmittedCall}
use Rattle.calls.proofs.CallLaws.{long_enough, call_clear, admitted_call}
use Rattle.checker.specs.Accepting.{Acceptable, before18, Refused18}

-- ---- faults that stand one after the other

-- past faults that are not there
on_past : (fs gs : List Fault) {v : Verdict} → AllClear fs → Answers (fs ++ gs) v → Answers gs v
unfolding AllClear
on_past [] gs c a = a
on_past (f ∷ fs) gs c a = on_past fs gs c.1 (look_on f (fs ++ gs) c.0 a)

-- ---- the answer

module _ (n e : ℕ) (groups links marks amounts : List ℕ) where
  claim_clear :
      CheckerSays n e groups links marks amounts (Ok tt)
      → AllClear (chooser_faults n e groups links marks amounts) × AllClear (claim_faults (survey_of n e groups links) marks (amounts_of amounts))
  claim_clear a =
      clear_parts (chooser_faults n e groups links marks amounts) (claim_faults (survey_of n e groups links) marks (amounts_of amounts))
      (fine_clear (checker_faults n e groups links marks amounts) a.verdict)

  call_of : CheckerSays n e groups links marks amounts (Ok tt) → AdmittedCall n e groups links marks amounts
  call_of a = admitted_call groups links marks amounts n e (clear_fine (chooser_faults n e groups links marks amounts) (claim_clear a).0)

  rule_of : CheckerSays n e groups links marks amounts (Ok tt) → Accepted (survey_of n e groups links) (marked_set marks) (amounts_of amounts)
  unfolding AllClear
  rule_of a =
      let c = (claim_clear a).1 in
      clear_accepted (survey_of n e groups links) (marked_set marks) (amounts_of amounts) (call_of a).sound.inside
      (record { closed = c.1.1.0; dead = c.1.1.1.0; balances = c.1.1.1.1.0; largest = c.1.1.1.1.1.0 })

  -- What the checker accepts is the pick.
  pub accepted_is_pick : CheckerSays n e groups links marks amounts (Ok tt) → IsPick (survey_of n e groups links) (marked_set marks)
  accepted_is_pick a = accepted_pick (call_of a).sound.inside (rule_of a)

  -- The checker accepts exactly what is acceptable.
  pub accepted_acceptable : CheckerSays n e groups links marks amounts (Ok tt) → Acceptable n e groups links marks amounts
  unfolding AllClear survey_at
  accepted_acceptable a =
      let c = (claim_clear a).1 in
      let call = call_clear groups links marks amounts n e (clear_fine (chooser_faults n e groups links marks amounts) (claim_clear a).0) in
      record {
        long = call.0;
        admitted = call.1;
        marks_good = λ g l. good (get_or marks g 0) (c.0.none g l);
        amounts_good = λ k l. omega (arith, c.1.0.none k l);
        rule = rule_of a;
      }
    where
      good : (x : ℕ) → (((x ≡ 0) ⊎ (x ≡ 1) → ⊥) → ⊥) → (x ≡ 0) ⊎ (x ≡ 1)
      good x d = at (ℕ_discrete x 0) (ℕ_discrete x 1)
        where
          at : Dec (x ≡ 0) → Dec (x ≡ 1) → (x ≡ 0) ⊎ (x ≡ 1)
          at (yes z) y = inl z
          at (no z) (yes y) = inr y
          at (no z) (no y) = absurd (d (⊎_elim z y))

  pub acceptable_accepted : Acceptable n e groups links marks amounts → CheckerSays n e groups links marks amounts (Ok tt)
  unfolding AllClear survey_at
  acceptable_accepted x =
      record {
        verdict =
            past (whole_clear (long_enough groups links marks amounts x.long))
            (afterwards (list_faults (survey_of n e groups links)) x.admitted.clear
            (past (record { none = λ g l d. d (x.marks_good g l) })
            (past (record { none = λ k l h. omega (arith, x.amounts_good k l) })
            (past claim.closed (past claim.dead (past claim.balances (past claim.largest none_left)))))));
      }
    where
      claim : ClaimClear (survey_of n e groups links) (marked_set marks) (amounts_of amounts)
      claim = accepted_clear (survey_of n e groups links) (marked_set marks) (amounts_of amounts) x.rule

  pub accepted_iff :
      (CheckerSays n e groups links marks amounts (Ok tt) → Acceptable n e groups links marks amounts)
      × (Acceptable n e groups links marks amounts → CheckerSays n e groups links marks amounts (Ok tt))
  accepted_iff = (accepted_acceptable, acceptable_accepted)

  -- ---- refusal 18

  -- A claim that passes every row up to 17 and that the rule does not accept is refused 18, and the group is there to be named.
  pub refusal_18_has_its_place :
      (r : Result (Unit {0}) Refusal) → CheckerSays n e groups links marks amounts r → AllClear (before18 n e groups links marks amounts)
      → (Accepted (survey_of n e groups links) (marked_set marks) (amounts_of amounts) → ⊥) → Refused18 n e groups links marks amounts r
  unfolding AllClear survey_at
  refusal_18_has_its_place r a c not =
      at (look (not_largest s S x) [] (on_past (before18 n e groups links marks amounts) (not_largest s S x ∷ []) c a.verdict))
    where
      s : Survey
      s = survey_of n e groups links

      S : Set
      S = marked_set marks

      x : Amounts
      x = amounts_of amounts

      parts : AllClear (chooser_faults n e groups links marks amounts) × AllClear (bad_mark s marks ∷ bad_amount s x ∷ not_closed s S ∷ nothing_dead s S ∷ balance_above s S x ∷ [])
      parts = clear_parts (chooser_faults n e groups links marks amounts) (bad_mark s marks ∷ bad_amount s x ∷ not_closed s S ∷ nothing_dead s S ∷ balance_above s S x ∷ []) c

      inside : Inside s
      inside = (admitted_call groups links marks amounts n e (clear_fine (chooser_faults n e groups links marks amounts) parts.0)).sound.inside

      eligible : Eligible s S
      eligible =
          record {
            closed =
                record { back = λ k l m. by_test (S (s.link k).from) (λ y. y) (λ z. absurd (parts.1.1.1.0.none k l (z, m))) };
          }

      answer : (r : Result (Unit {0}) Refusal) {y : Refusal} → verdict_of r ≡ refused y → r ≡ Err y
      answer (Err y') q = cc
      answer (Ok tt) q = let z : ◌≡◌ {A = ℕ} 0 1 = cc in absurd (omega arith)

      at : Given (not_largest s S x) (verdict_of r) ⊎ (Clear (not_largest s S x) × Answers [] (verdict_of r)) → Refused18 n e groups links marks amounts r
      at (inl g) =
          let f = g.lowest.fault in
          record {
            group = g.lowest_place;
            is = answer r g.is;
            largest_set = f.largest_set;
            largest = f.largest;
            contains = claimed_within inside S x parts.1.1.1.1.1.0.none eligible f.largest;
            below = g.lowest.below;
            inside = f.inside;
            out = f.outside;
            first = λ j l y z. g.lowest.first j l (record { largest_set = f.largest_set; largest = f.largest; inside = y; outside = z });
          }
      at (inr q) = absurd (not (clear_accepted s S x inside (record { closed = parts.1.1.1.0; dead = parts.1.1.1.1.0; balances = parts.1.1.1.1.1.0; largest = q.0 })))
