-- Specification 15.4, wrong turns: closed the other way round, an empty or a 0:0 set that takes part, the balances and no more. Growing one group
-- at a time and averages have files of their own.
use Prim.Native.Nat.{ℕ, ◌<◌}
use native.Mathlib.Omega.{arith}
use mathlib.Core.Path.{◌≡◌, refl}
use mathlib.Core.Bool.{true, not}
use mathlib.Core.List.{List, [], ◌∷◌}
use lib.Dec.{ltb}
use Rattle.std.specs.Prelude.{Result, Ok}
use Rattle.survey.specs.declared.answers.Refusal.{Refusal}
use Rattle.survey.specs.Survey.{Survey}
use Rattle.survey.specs.Sets.{Set, In, Same, Closed, no_group, sum, total, D, L}
use Rattle.survey.specs.Pick.{Candidate, IsPick}
use Rattle.survey.specs.Rounds.{weights}
use Rattle.survey.specs.Balance.{gets, pays, debit, credit, BalanceAbove0, Settled}
use Rattle.survey.specs.Words.{marked_set, amounts_of}
use Rattle.survey.specs.Faults.{Admitted}
use Rattle.survey.specs.Promises.{ChooserSays, CheckerSays}
use Rattle.survey.specs.Drawings.{Drawing, picks, sums, link, set_of, f2, two_alike}
use Rattle.survey.proofs.Totals.{not_both}
use Rattle.survey.proofs.Deciding.{denied, less, all_below, all_below_lem}
use Rattle.survey.proofs.AllSets.{find_from, find_set, any_set, every_set}
use Rattle.survey.proofs.SetTests.{inside_test, contains_test, closed_test, eligible_test, candidate_test, candidate_told, best_test, pick_test}
use Rattle.survey.proofs.ClaimTests.{settled_test, settled_told}
use Rattle.survey.proofs.Drawings.{right, says_test, all_test, all_right, all_right_lem}
use Rattle.drawn.proofs.Calls.{Lends}
use Rattle.useless.proofs.NothingSets.{HasNothing, nothing_no_pick, empty_nothing}
use Rattle.drawn.proofs.Benched.{f2_admitted}
use Rattle.useless.proofs.Choosers.{marks_only_pick}
use Rattle.useless.proofs.Checkers.{always_yes}

-- ---- closed the other way round, along links forward: F2 would take group 4 by itself, for its 10:3

-- the to is wanted wherever the from is in
pub record ClosedForward (s : Survey) (S : Set) : Type 0 where
  pub on : (k : ℕ) → k < s.e → In S (s.link k).from → In S (s.link k).to

-- the survey with every link turned round
abbrev pub turned : Survey → Survey
turned s = record { n = s.n; e = s.e; group = s.group; link = λ k. link (s.link k).to (s.link k).from }

-- Closed forward is closed with every link turned round.
module _ {s : Survey} {S : Set} where
  pub forward_turned : ClosedForward s S → Closed (turned s) S
  forward_turned c = record { back = c.on }

  pub turned_forward : Closed (turned s) S → ClosedForward s S
  turned_forward c = record { on = c.back }

abbrev forward : List Drawing
forward = picks (turned f2) (4 ∷ []) ∷ sums (turned f2) (4 ∷ []) 10 3 ∷ []

forward_right : all_right forward ≡ true
unfolding all_right all_test right says_test inside_test contains_test closed_test eligible_test candidate_test best_test pick_test
    sum total all_below find_from find_set any_set every_set
forward_right = refl

-- The wrong turn: of the sets that are closed forward, F2 would take {4}, 10:3.
pub forward_takes : IsPick (turned f2) (set_of (4 ∷ []))
forward_takes = (all_right_lem forward forward_right).0

pub forward_sums : (D f2 (set_of (4 ∷ [])) ≡ 10) × (L f2 (set_of (4 ∷ [])) ≡ 3)
unfolding sum total
forward_sums = (all_right_lem forward forward_right).1.0

-- It is not even closed, for group 1 has a link to group 4: so it is not the pick, and no allowed answer to a call that lends F2 marks it.
pub forward_not_closed : Closed f2 (set_of (4 ∷ [])) → ⊥
forward_not_closed c = not_both (c.back 3 (omega arith) refl) refl

pub forward_no_pick : IsPick f2 (set_of (4 ∷ [])) → ⊥
forward_no_pick p = forward_not_closed p.best.candidate.eligible.closed

pub closes_forward :
    {groups links marks amounts marks' amounts' : List ℕ} {r : Result ℕ Refusal} → Lends f2 groups links marks amounts
    → ChooserSays 5 4 groups links marks amounts r marks' amounts' → Same f2 (marked_set marks') (set_of (4 ∷ [])) → ⊥
closes_forward c x e = marks_only_pick c f2_admitted x e forward_no_pick

-- ---- the empty set or a set of 0:0 takes part where products are compared

-- Such a set would stand unbeaten, as no product is ever below another (NothingSets). But no allowed answer marks one, whatever the survey: so
-- none is the empty pick.
module _
    {s : Survey} {groups links marks amounts marks' amounts' : List ℕ} {r : Result ℕ Refusal} (c : Lends s groups links marks amounts) (admitted : Admitted s)
    (x : ChooserSays s.n s.e groups links marks amounts r marks' amounts') where
  pub takes_nothing : {Z : Set} → HasNothing s Z → Same s (marked_set marks') Z → ⊥
  takes_nothing z e = marks_only_pick c admitted x e (nothing_no_pick z)

  pub empty_pick : Same s (marked_set marks') no_group → ⊥
  empty_pick e = takes_nothing (empty_nothing s) e

-- ---- the balances are checked and no more, so that a set passes which is not the largest

-- The balance rule without its last word: the set is a candidate, each balance is 0 or below, and the set is settled.
pub record LargestForgotten (s : Survey) (marks amounts : List ℕ) : Type 0 where
  pub candidate : Candidate s (marked_set marks)
  pub no_balance_above : (g : ℕ) → g < s.n → BalanceAbove0 s (weights s (marked_set marks)) (amounts_of amounts) g → ⊥
  pub settled : Settled s (weights s (marked_set marks)) (amounts_of amounts) (marked_set marks)

-- Of the two groups 1:1 the claim {0} has all that.
pub largest_forgotten : (markTail amounts : List ℕ) → LargestForgotten two_alike (1 ∷ 0 ∷ markTail) amounts
unfolding candidate_test eligible_test closed_test settled_test sum total gets pays all_below
largest_forgotten markTail amounts =
    record {
      candidate = (candidate_told s S).so refl;
      no_balance_above =
          (all_below_lem 2 {t = λ g. not (ltb (debit s (weights s S) (amounts_of amounts) g) (credit s (weights s S) (amounts_of amounts) g))}
          (λ g l. denied (less (debit s (weights s S) (amounts_of amounts) g) (credit s (weights s S) (amounts_of amounts) g)))).so refl;
      settled = (settled_told s (weights s S) (amounts_of amounts) S).so refl;
    }
  where
    s : Survey
    s = two_alike

    S : Set
    S = marked_set (1 ∷ 0 ∷ markTail)

-- And yet, on a call that lends them, the checker may not accept it: refusal 18 at group 1 is the one answer (Checkers.two_refused).
pub forgets_largest :
    {groups links markTail amounts : List ℕ} → Lends two_alike groups links (1 ∷ 0 ∷ markTail) amounts
    → LargestForgotten two_alike (1 ∷ 0 ∷ markTail) amounts × (CheckerSays 2 0 groups links (1 ∷ 0 ∷ markTail) amounts (Ok tt) → ⊥)
forgets_largest {groups} {links} {markTail} {amounts} c = (largest_forgotten markTail amounts, λ x. always_yes c x)
