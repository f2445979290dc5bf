-- The table's rows 15 to 18 and the balance rule's three clauses say the same: a claim that passes the rows is accepted, and the other way round.
use Prim.Native.Nat.{ℕ, ◌<◌}
use native.Mathlib.Omega.{arith}
use mathlib.Core.Path.{◌≡◌}
use mathlib.Core.List.{List}
use Rattle.survey.specs.Survey.{Survey}
use Rattle.survey.specs.Sets.{Set, Eligible, Contains, D}
use Rattle.survey.specs.Pick.{IsPick}
use Rattle.survey.specs.Rounds.{weights}
use Rattle.survey.specs.Balance.{Amounts, LargestSettled, Accepted}
use Rattle.survey.specs.Words.{marked_set}
use Rattle.survey.specs.Refusals.{Clear, AllClear, fine, Answers}
use Rattle.survey.specs.Faults.{not_closed, nothing_dead, balance_above, not_largest, claim_faults}
use Rattle.survey.specs.Sound.{Inside}
use Rattle.survey.proofs.Totals.{by_test, not_both}
use Rattle.survey.proofs.SameSets.{contains_both, largest_settled_same}
use Rattle.survey.proofs.BalanceRule.{claimed_within, accepted_pick}
use Rattle.survey.proofs.Verdicts.{fine_clear}
use Rattle.survey.proofs.ClaimTests.{largest_set, largest_set_lem}

module _ (s : Survey) (S : Set) (a : Amounts) where
  eligible_clear : Eligible s S → Clear (not_closed s S)
  eligible_clear b = record { none = λ k l x. not_both (b.closed.back k l x.1) x.0 }

  clear_eligible : Clear (not_closed s S) → Eligible s S
  clear_eligible c =
      record { closed = record { back = λ k l m. by_test (S (s.link k).from) (λ y. y) (λ z. absurd (c.none k l (z, m))) } }

  -- rows 15 to 18
  pub record ClaimClear : Type 0 where
    pub closed : Clear (not_closed s S)
    pub dead : Clear (nothing_dead s S)
    pub balances : Clear (balance_above s S a)
    pub largest : Clear (not_largest s S a)

  pub clear_accepted : Inside s → ClaimClear → Accepted s S a
  clear_accepted i c =
      record {
        candidate = record { eligible = clear_eligible c.closed; dead = above (λ z. c.dead.none 0 (omega arith) z) };
        no_balance_above = c.balances.none;
        largest = largest_settled_same i (contains_both within around) found;
      }
    where
      above : (D s S ≡ 0 → ⊥) → 0 < D s S
      above d = omega arith

      T : Set
      T = largest_set s (weights s S) a

      found : LargestSettled s (weights s S) a T
      found = largest_set_lem s (weights s S) a i

      within : Contains s T S
      within = claimed_within i S a c.balances.none (clear_eligible c.closed) found

      around : Contains s S T
      around =
          record {
            has =
                λ g l m. by_test (S g) (λ y. y)
                (λ z. absurd (c.largest.none g l (record { largest_set = T; largest = found; inside = m; outside = z })));
          }

  pub accepted_clear : Accepted s S a → ClaimClear
  accepted_clear x =
      record {
        closed = eligible_clear x.candidate.eligible;
        dead = record { none = λ k l z. below z x.candidate.dead };
        balances = record { none = x.no_balance_above };
        largest =
            record { none = λ g l y. not_both ((x.largest.largest y.largest_set y.largest.settled).has g l y.inside) y.outside };
      }
    where
      below : D s S ≡ 0 → 0 < D s S → ⊥
      below z p = omega arith

-- A claim that no row refuses is accepted by the balance rule, and so is the pick.
module _ {s : Survey} (i : Inside s) (m : List ℕ) (a : Amounts) where
  pub fine_accepted : Answers (claim_faults s m a) fine → Accepted s (marked_set m) a
  unfolding AllClear
  fine_accepted x =
      let c : AllClear (claim_faults s m a) = fine_clear (claim_faults s m a) x in
      clear_accepted s (marked_set m) a i
      (record { closed = c.1.1.0; dead = c.1.1.1.0; balances = c.1.1.1.1.0; largest = c.1.1.1.1.1.0 })

  pub fine_pick : Answers (claim_faults s m a) fine → IsPick s (marked_set m)
  fine_pick x = accepted_pick i (fine_accepted x)
