-- A test for each row of the table that a claim is looked at by: 5 and 8 to 12 of its survey, 13 to 18 of the claim.
use Prim.Native.Nat.{ℕ, ◌-◌, ◌<◌}
use mathlib.Core.Bool.{Bool, not, ◌&&◌, ◌||◌}
use mathlib.Core.List.{List, [], ◌∷◌}
use lib.ListN.{get_or}
use lib.Dec.{eqb, leb, ltb}
use Rattle.survey.specs.Limits.{group_limit, link_limit, count_limit, amount_limit}
use Rattle.survey.specs.Survey.{Survey, Link, Ascends}
use Rattle.survey.specs.Sets.{Set, In, Eligible, D, dead_of}
use Rattle.survey.specs.Rounds.{Weights, weights}
use Rattle.survey.specs.Balance.{Amounts, credit, debit, Settled, LargestSettled}
use Rattle.survey.specs.Words.{marked_set}
use Rattle.survey.specs.Faults.{LeftOut, list_faults, claim_faults}
use Rattle.survey.specs.Sound.{Inside}
use Rattle.survey.proofs.Reaching.{has_cycle, has_cycle_lem, no_cycle}
use Rattle.survey.proofs.SameSets.{settled_same}
use Rattle.survey.proofs.Deciding.{Decides, told_iff, holds_true, fails_false, both, either, denied, implied, is_in, is_out, less, at_most, equal, all_below, all_below_lem}
use Rattle.survey.proofs.AllSets.{any_set, any_set_lem}
use Rattle.survey.proofs.SetTests.{eligible_test, eligible_told}
use Rattle.survey.proofs.ComputedVerdicts.{RowsTold, no_row, row}

-- ---- the largest settled set

module _ (s : Survey) (w : Weights) (a : Amounts) where
  -- no amount leaves S by link k
  abbrev keeps_test : Set → ℕ → Bool
  keeps_test S k = not (S (s.link k).from && (not (S (s.link k).to) && ltb 0 (a k)))

  unfoldable pub settled_test : Set → Bool
  settled_test S =
      eligible_test s S && (all_below s.n (λ g. not (S g) || eqb (debit s w a g) (credit s w a g)) && all_below s.e (keeps_test S))

  pub settled_told : (S : Set) → Decides (Settled s w a S) (settled_test S)
  unfolding settled_test
  settled_told S =
      told_iff (λ z. record { eligible = z.0; zero = z.1.0; keeps = λ k l p o x. z.1.1 k l (p, (o, x)) })
      (λ x. (x.eligible, (x.zero, λ k l y. x.keeps k l y.0 y.1.0 y.1.1)))
      (both (eligible_told s S)
      (λ z. both (all_below_lem s.n (λ g l. implied (is_in (S g)) (λ z. equal (debit s w a g) (credit s w a g))))
      (λ z. all_below_lem s.e (λ k l. denied (both (is_in (S (s.link k).from)) (λ z. both (is_out (S (s.link k).to)) (λ z. less 0 (a k))))))))

  -- the groups that are in some settled set
  unfoldable pub largest_set : Set
  largest_set g = any_set s (λ S. settled_test S && S g)

  module _ (i : Inside s) where
    in_some : (g : ℕ) → g < s.n → Decides ((S : Set) × (Settled s w a S × In S g)) (largest_set g)
    unfolding largest_set
    in_some g l = any_set_lem (λ A B e x. (settled_same i e x.0, rw (← e.at g l) x.1)) (λ S. both (settled_told S) (λ z. is_in (S g)))

    -- A settled set lies within them all taken together.
    within : {S : Set} → Settled s w a S → (g : ℕ) → g < s.n → In S g → In largest_set g
    within {S} x g l h = holds_true (in_some g l) (S, (x, h))

    largest_eligible : Eligible s largest_set
    largest_eligible =
        record { closed = record { back = λ k l h. let m = (in_some _ (i.to k l)).so h in back m.1.0 k l m.1.1 } }
      where
        back : {S : Set} → Settled s w a S → (k : ℕ) → k < s.e → In S (s.link k).to → In largest_set (s.link k).from
        back x k l h = within x _ (i.from k l) (x.eligible.closed.back k l h)

    largest_is_settled : Settled s w a largest_set
    largest_is_settled =
        record {
          eligible = largest_eligible;
          zero = λ g l h. let m = (in_some g l).so h in m.1.0.zero g l m.1.1;
          -- a link that leaves them all leaves the one that it begins in
          keeps =
              λ k l h o. let m = (in_some _ (i.from k l)).so h in
              m.1.0.keeps k l m.1.1 (fails_false (is_in _) (λ y. (in_some _ (i.to k l)).not_so o (m.0, (m.1.0, y))));
        }

    pub largest_set_lem : LargestSettled s w a largest_set
    largest_set_lem = record { settled = largest_is_settled; largest = λ B x. record { has = within x } }

-- in the largest set, which is worth looking for only where g is not in S
abbrev left_out_test : Survey → Set → Amounts → ℕ → Bool
left_out_test s S a g = let inside = largest_set s (weights s S) a g in not (S g) && inside

left_out_told : {s : Survey} → Inside s → (S : Set) (a : Amounts) (g : ℕ) → g < s.n → Decides (LeftOut s S a g) (left_out_test s S a g)
left_out_told {s} i S a g l =
    told_iff (λ z. record { largest_set = M; largest = m; inside = z.1; outside = z.0 })
    (λ x. (x.outside, (m.largest x.largest_set x.largest.settled).has g l x.inside))
    (both (is_out (S g)) (λ z. is_in (M g)))
  where
    M : Set
    M = largest_set s (weights s S) a

    m : LargestSettled s (weights s S) a M
    m = largest_set_lem s (weights s S) a i

-- ---- the rows

abbrev ascends_test : Link → Link → Bool
ascends_test a b = ltb a.from b.from || (eqb a.from b.from && ltb a.to b.to)

ascends_told : (a b : Link) → Decides (Ascends a b) (ascends_test a b)
ascends_told a b = either (less a.from b.from) (both (equal a.from b.from) (λ z. less a.to b.to))

-- 5 and 8 to 12
unfoldable pub survey_tests : Survey → List (ℕ → Bool)
survey_tests s =
    (λ k. ltb s.n 1 || (ltb group_limit s.n || ltb link_limit s.e))
    ∷ (λ g. ltb count_limit (s.group g).dead || ltb count_limit (s.group g).live)
    ∷ (λ k. leb s.n (s.link k).from || leb s.n (s.link k).to)
    ∷ (λ k. ltb 0 k && not (ascends_test (s.link (k - 1)) (s.link k)))
    ∷ (λ k. has_cycle s)
    ∷ (λ k. all_below s.n (λ g. eqb (dead_of s g) 0))
    ∷ []

pub survey_rows_told : {s : Survey} → Inside s → RowsTold (list_faults s) (survey_tests s)
unfolding survey_tests
survey_rows_told {s} i =
    row (λ k l. either (less s.n 1) (either (less group_limit s.n) (less link_limit s.e)))
    (row (λ g l. either (less count_limit (s.group g).dead) (less count_limit (s.group g).live))
    (row (λ k l. either (at_most s.n (s.link k).from) (at_most s.n (s.link k).to))
    (row (λ k l. both (less 0 k) (λ z. denied (ascends_told (s.link (k - 1)) (s.link k))))
    (row (λ k l. record { so = has_cycle_lem; not_so = no_cycle i })
    (row (λ k l. all_below_lem s.n (λ g m. equal (dead_of s g) 0)) no_row)))))

-- 13 to 18
unfoldable pub claim_tests : Survey → List ℕ → Amounts → List (ℕ → Bool)
claim_tests s m a =
    (λ g. not (eqb (get_or m g 0) 0 || eqb (get_or m g 0) 1))
    ∷ (λ k. ltb amount_limit (a k))
    ∷ (λ k. not (marked_set m (s.link k).from) && marked_set m (s.link k).to)
    ∷ (λ k. eqb (D s (marked_set m)) 0)
    ∷ (λ g. ltb (debit s (weights s (marked_set m)) a g) (credit s (weights s (marked_set m)) a g))
    ∷ left_out_test s (marked_set m) a
    ∷ []

pub claim_rows_told : {s : Survey} → Inside s → (m : List ℕ) (a : Amounts) → RowsTold (claim_faults s m a) (claim_tests s m a)
unfolding claim_tests
claim_rows_told {s} i m a =
    row (λ g l. denied (either (equal (get_or m g 0) 0) (equal (get_or m g 0) 1)))
    (row (λ k l. less amount_limit (a k))
    (row (λ k l. both (is_out (S (s.link k).from)) (λ z. is_in (S (s.link k).to)))
    (row (λ k l. equal (D s S) 0)
    (row (λ g l. less (debit s (weights s S) a g) (credit s (weights s S) a g))
    (row (left_out_told i S a) no_row)))))
  where
    S : Set
    S = marked_set m
