-- Round after round, and what the last one leaves: the pick, its count of rounds, and amounts that are accepted.
use Prim.Native.Nat.{ℕ, ◌+◌, ◌*◌, ◌<◌, ◌≤◌}
use native.Mathlib.Omega.{arith}
use mathlib.Core.Path.{◌≡◌, refl, sym, ◌∙◌}
use mathlib.Core.Bool.{Bool, true, false}
use mathlib.Core.List.{List}
use lib.ListN.{get_or, replicate, get_or-replicate}
use borrow.Author.Tests.{eq-eqb}
use Rattle.survey.specs.Limits.{group_limit, entry_bytes}
use Rattle.survey.specs.Sets.{Same}
use Rattle.survey.specs.Balance.{Accepted}
use Rattle.survey.specs.Words.{survey_at, survey_of, marked_set, amounts_of}
use Rattle.survey.specs.Promises.{Marked, AmountsPut, Chooses}
use Rattle.survey.proofs.SameSets.{rounds_end_same}
use Rattle.survey.proofs.SameClaims.{SameAmounts, accepted_same}
use Rattle.survey.proofs.BalanceRule.{accepted_pick}
use Rattle.survey.proofs.Rounds.{size}
use Rattle.survey.proofs.LastRound.{Reached, reached_none, reached_more, reached_last, round_fewer}
use Rattle.survey.proofs.RoundSets.{round_accepted}
use Rattle.survey.proofs.RoundCount.{size_few}
use Rattle.calls.specs.Calls.{AdmittedCall}
use Rattle.weights.specs.Put.{PutFirst}
use Rattle.chooser.specs.Rounds.{AllAsk, Kept, Round, Ended}
use Rattle.chooser.proofs.CopyLaws.{copied_marks, copied_amounts}

kept_none : {n e : ℕ} {c a : List ℕ} → Kept n e c a c a
kept_none = record { current_rest = λ g l. refl; amounts_rest = λ i l. refl; current_long = refl; amounts_long = refl }

kept_on : {n e : ℕ} {c a c' a' c'' a'' : List ℕ} → Kept n e c a c' a' → Kept n e c' a' c'' a'' → Kept n e c a c'' a''
kept_on x y =
    record {
      current_rest = λ g l. y.current_rest g l ∙ x.current_rest g l;
      amounts_rest = λ i l. y.amounts_rest i l ∙ x.amounts_rest i l;
      current_long = y.current_long ∙ x.current_long;
      amounts_long = y.amounts_long ∙ x.amounts_long;
    }

-- r rounds were more than 0: what is current now, and that there are fewer groups in it than rounds are left to be counted
pub record Running (n e : ℕ) (groups links current₀ amounts₀ : List ℕ) (r : ℕ) (current amounts : List ℕ) : Type 0 where
  pub reached : Reached (survey_of n e groups links) (marked_set current) r
  pub few : r + size (survey_of n e groups links) (marked_set current) ≤ n
  pub kept : Kept n e current₀ amounts₀ current amounts

module _ {n e : ℕ} {groups links current₀ amounts₀ : List ℕ} (x : AllAsk n e groups links current₀) where
  pub running_none : Running n e groups links current₀ amounts₀ 0 current₀ amounts₀
  unfolding survey_at
  running_none =
      record {
        reached = reached_none x.all;
        few = omega (arith, size_few (survey_of n e groups links) (marked_set current₀));
        kept = kept_none;
      }

  module _ {r : ℕ} {current amounts current' amounts' : List ℕ} {more : Bool} (w : Running n e groups links current₀ amounts₀ r current amounts)
      (o : Round n e groups links current amounts more current' amounts') where
    pub fewer : more ≡ true → size (survey_of n e groups links) (marked_set current') < size (survey_of n e groups links) (marked_set current)
    fewer y = round_fewer w.reached.current o.round.heaviest (o.round.further y)

    pub running_more : more ≡ true → Running n e groups links current₀ amounts₀ (r + 1) current' amounts'
    running_more y =
        record {
          reached = reached_more w.reached o.round.heaviest (o.round.further y);
          few = omega (arith, w.few, fewer y);
          kept = kept_on w.kept o.worked.kept;
        }

    pub ended : more ≡ false → Ended n e groups links current₀ amounts₀ (r + 1) current' amounts'
    ended z =
        record {
          worked = record { small = o.worked.small; bits = o.worked.bits; kept = kept_on w.kept o.worked.kept };
          counted = reached_last w.reached o.round.heaviest (o.round.last z);
          accepted =
              round_accepted x.listed.sound.inside (marked_set current') x.listed.sound.some_dead w.reached.current o.round.drains o.round.dry (o.round.last z);
        }

-- ---- what begins it: all groups, no amounts

pub all_ask : {n e : ℕ} {groups links marks amounts : List ℕ} → AdmittedCall n e groups links marks amounts → AllAsk n e groups links (replicate group_limit 1)
unfolding survey_at
all_ask x =
    record {
      listed = record { sound = x.sound; groups_long = x.groups_long; links_long = x.links_long };
      all = record { at = λ g l. sym (eq-eqb (get_or (replicate group_limit 1) g 0) 1 (get_or-replicate group_limit g 1 0 (omega (arith, x.few_groups)))) };
    }

-- ---- written to the lent lists

module _ {n e : ℕ} {groups links marks amounts current₀ flowing₀ current flowing marks' amounts' : List ℕ} {r : ℕ} (x : AdmittedCall n e groups links marks amounts)
    (w : Ended n e groups links current₀ flowing₀ r current flowing) (m : PutFirst n (λ i. get_or current i 0) marks marks')
    (a : PutFirst (entry_bytes * e) (λ i. get_or flowing i 0) amounts amounts') where
  same_marks : Same (survey_of n e groups links) (marked_set current) (marked_set marks')
  unfolding survey_at
  same_marks = record { at = copied_marks current m }

  same_amounts : SameAmounts (survey_of n e groups links) (amounts_of flowing) (amounts_of amounts')
  unfolding survey_at
  same_amounts = record { at = copied_amounts flowing a }

  marked : Marked marks marks' (survey_of n e groups links).n
  unfolding survey_at
  marked = record { long = m.long; bits = λ g l. grind (arith, m.first g l, w.worked.bits g l); rest = m.rest }

  put : AmountsPut amounts amounts' (survey_of n e groups links).e
  unfolding survey_at
  put = record { long = a.long; small = λ k l. omega (arith, copied_amounts flowing a k l, w.worked.small k l); rest = a.rest }

  pub chosen : Chooses (survey_of n e groups links) r marks amounts marks' amounts'
  chosen =
      record {
        marked = marked;
        put = put;
        pick = accepted_pick x.sound.inside accepted;
        counted = rounds_end_same x.sound.inside same_marks w.counted;
        accepted = accepted;
      }
    where
      accepted : Accepted (survey_of n e groups links) (marked_set marks') (amounts_of amounts')
      accepted = accepted_same x.sound.inside same_marks same_amounts w.accepted
