-- The rows of the balance rule, from what the looks find in the lists to what the definitions say of the survey.
use Prim.Native.Nat.{ℕ, ◌-◌, ◌≤◌, ◌<◌}
use native.Mathlib.Omega.{arith}
use mathlib.Core.Path.{◌≡◌, ◌∙◌}
use mathlib.Core.List.{List}
use lib.ListN.{length, get_or}
use Rattle.survey.specs.Limits.{group_limit}
use Rattle.survey.specs.Sets.{outside}
use Rattle.survey.specs.Rounds.{weights}
use Rattle.survey.specs.Balance.{LargestSettled, lack}
use Rattle.survey.specs.Words.{survey_at, survey_of, marked_set, amounts_of}
use Rattle.survey.specs.Refusals.{Clear, Lowest, Answers, fine, refused}
use Rattle.survey.specs.declared.answers.Refusal.{Refusal}
use Rattle.survey.specs.Faults.{balance_above, not_largest}
use Rattle.survey.specs.Draining.{Drains}
use Rattle.survey.proofs.Draining.{drained_settled, in_out, outside_in}
use Rattle.survey.proofs.Unique.{largest_settled_one}
use Rattle.std.specs.Prelude.{Option, None, Some}
use Rattle.refusals.specs.Searches.{Finds}
use Rattle.refusals.specs.Refused.{refusal_at}
use Rattle.refusals.proofs.Looking.{stop_at}
use Rattle.survey.proofs.Verdicts.{past, none_left}
use Rattle.flow.proofs.LinkLaws.{survey_given, inside_ends}
use Rattle.flow.proofs.DrainLaws.{least_drains}
use Rattle.weights.specs.Put.{PutFirst}
use Rattle.balance.specs.Rule.{RuleAsks, rule_faults}
use Rattle.balance.specs.Balances.{above_row, BalancesPut, LacksAsk}
use Rattle.balance.specs.Largest.{LargestAsks, LeftOutFound}
use Rattle.balance.proofs.Looks.{finds_same}

module _ (n e : ℕ) (groups links marks amounts : List ℕ) where
  -- what the two lists hold are the balances
  module _ {credits debits : List ℕ} (b : BalancesPut n e groups links marks amounts credits debits) where
    above_row_lem : (r : Option ℕ) → Finds (above_row n credits debits) r → Finds (balance_above (survey_of n e groups links) (marked_set marks) (amounts_of amounts)) r
    unfolding survey_at
    above_row_lem r x =
        finds_same 17 n (λ g l y. omega (arith, b.credit_at g l, b.debit_at g l)) (λ g l y. omega (arith, b.credit_at g l, b.debit_at g l)) r x

    pub above_refused :
        {g : ℕ} {r : Refusal} → Lowest (above_row n credits debits) g → r ≡ refusal_at 17 g
        → Answers (rule_faults (survey_of n e groups links) (marked_set marks) (amounts_of amounts)) (refused r)
    above_refused {g} low is = stop_at (above_row_lem (Some g) low) is

    module _ (clear : Clear (above_row n credits debits)) where
      level_at : (g : ℕ) → g < n → get_or credits g 0 ≤ get_or debits g 0
      level_at g l = omega (arith, clear.none g l)

      pub lacks_ask : {d : ℕ} → RuleAsks n e groups links marks amounts d → LacksAsk n credits debits
      lacks_ask x = record { few = x.call.few_groups; level = level_at }

      module _ {lacks : List ℕ} (p : PutFirst n (λ g. get_or debits g 0 - get_or credits g 0) debits lacks) where
        lack_at : (g : ℕ) → g < n → get_or lacks g 0 ≡ lack (survey_of n e groups links) (weights (survey_of n e groups links) (marked_set marks)) (amounts_of amounts) g
        lack_at g l = omega (arith, p.first g l, b.credit_at g l, b.debit_at g l)

        -- the groups outside the set that drains are the largest set of the rule
        module _ (drain : List ℕ) (d : Drains (survey_of n e groups links) (weights (survey_of n e groups links) (marked_set marks)) (amounts_of amounts) (marked_set drain)) where
          largest_is : LargestSettled (survey_of n e groups links) (weights (survey_of n e groups links) (marked_set marks)) (amounts_of amounts) (outside (marked_set drain))
          unfolding survey_at
          largest_is = drained_settled (survey_of n e groups links) (amounts_of amounts) (weights (survey_of n e groups links) (marked_set marks)) d
              (λ g l. omega (arith, level_at g l, b.credit_at g l, b.debit_at g l))

        left_out_row : (r : Option ℕ) → LeftOutFound n e links marks amounts lacks r → Finds (not_largest (survey_of n e groups links) (marked_set marks) (amounts_of amounts)) r
        unfolding survey_at
        left_out_row r f =
            finds_same 18 n
            (λ g l y. record { largest_set = outside (marked_set f.drain); largest = whole; inside = outside_in y.0; outside = y.1 })
            (λ g l y. (in_out ((largest_settled_one whole y.largest).at g l ∙ y.inside), y.outside))
            r f.finds
          where
            whole : LargestSettled (survey_of n e groups links) (weights (survey_of n e groups links) (marked_set marks)) (amounts_of amounts) (outside (marked_set f.drain))
            whole = largest_is f.drain (least_drains lack_at (f.least (survey_of n e groups links) (survey_given n e groups links)))

        pub left_out_refused :
            {g : ℕ} {r : Refusal} → LeftOutFound n e links marks amounts lacks (Some g) → r ≡ refusal_at 18 g
            → Answers (rule_faults (survey_of n e groups links) (marked_set marks) (amounts_of amounts)) (refused r)
        left_out_refused {g} f is = past (above_row_lem None clear) (stop_at (left_out_row (Some g) f) is)

        pub rule_kept : LeftOutFound n e links marks amounts lacks None → Answers (rule_faults (survey_of n e groups links) (marked_set marks) (amounts_of amounts)) fine
        rule_kept f = past (above_row_lem None clear) (past (left_out_row None f) none_left)

-- ---- what the search for 18 asks

module _ {n e d : ℕ} {groups links marks amounts : List ℕ} (x : RuleAsks n e groups links marks amounts d) where
  pub largest_asks : {lacks : List ℕ} → group_limit ≤ length lacks → LargestAsks n e links marks amounts lacks
  largest_asks long =
      record {
        net =
            record {
              few_groups = x.call.few_groups;
              few_links = x.call.few_links;
              links_long = x.call.links_long;
              from = λ k l. (inside_ends (survey_given n e groups links) x.call.sound.inside k l).0;
              to = λ k l. (inside_ends (survey_given n e groups links) x.call.sound.inside k l).1;
            };
        amounts_long = x.call.amounts_long;
        lack_long = omega (arith, x.call.few_groups, long);
        marks_long = x.call.marks_long;
      }

pub ruleset rule_rows = (above_refused, lacks_ask, left_out_refused, rule_kept)
