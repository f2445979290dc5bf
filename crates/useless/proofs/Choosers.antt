-- Specification 15.5, useless choosers: none of them gives an answer that the chooser's promise allows.
-- A call lends F2 where its lists are long enough and the survey that they give is F2 (Calls); an answer is allowed where the chooser's
-- promise holds of it. Of each useless program: what it would answer is not allowed.
use Prim.Native.Nat.{ℕ}
use native.Mathlib.Omega.{arith}
use mathlib.Core.Path.{◌≡◌, sym, ap, subst, ◌∙◌}
use mathlib.Core.List.{List, [], ◌∷◌}
use Rattle.std.specs.Prelude.{Result, Ok, Err}
use Rattle.survey.specs.declared.answers.Refusal.{Refusal}
use Rattle.survey.specs.Survey.{Survey}
use Rattle.survey.specs.Sets.{Set, Same, all_groups, no_group}
use Rattle.survey.specs.Pick.{IsPick}
use Rattle.survey.specs.Rounds.{Heaviest, weights}
use Rattle.survey.specs.Words.{marked_set}
use Rattle.survey.specs.Faults.{Admitted}
use Rattle.survey.specs.Promises.{ChooserSays}
use Rattle.survey.specs.Drawings.{set_of, f2, f7}
use Rattle.survey.proofs.Totals.{not_both}
use Rattle.survey.proofs.SameSets.{same_refl, pick_same}
use Rattle.survey.proofs.Admitted.{admitted_sound}
use Rattle.survey.proofs.Unique.{pick_one, heaviest_one, rounds_one}
use Rattle.drawn.proofs.Calls.{Lends}
use Rattle.useless.proofs.NothingSets.{nothing_no_pick, empty_nothing}
use Rattle.useless.proofs.Owed.{owed}
use Rattle.drawn.proofs.Benched.{f2_admitted, f7_admitted, f2_pick, f2_rounds, f7_pick, f7_rounds, f2_first_round}

same_count_as : {j k : ℕ} → ◌≡◌ {A = Result ℕ Refusal} (Ok j) (Ok k) → j ≡ k
same_count_as e = cc

-- ---- on every admitted survey

module _ {s : Survey} {groups links marks amounts marks' amounts' : List ℕ} (c : Lends s groups links marks amounts) (admitted : Admitted s) where
  -- One that refuses whatever it gets fails demand 2: an admitted survey has its own pick coming to it.
  pub refuses_admitted : {x : Refusal} → ChooserSays s.n s.e groups links marks amounts (Err x) marks' amounts' → ⊥
  refuses_admitted x = cc (owed c admitted x).is

  module _ {r : Result ℕ Refusal} (x : ChooserSays s.n s.e groups links marks amounts r marks' amounts') where
    -- Whatever set an allowed answer marks is the pick, so one that is not is marked by none.
    pub marks_only_pick : {S : Set} → Same s (marked_set marks') S → (IsPick s S → ⊥) → ⊥
    marks_only_pick e d = d (pick_same (admitted_sound admitted).inside e (owed c admitted x).chooses.pick)

    -- One that writes no mark: where the lent marks are all 0, they may not stay as they were.
    pub leaves_marks : Same s (marked_set marks) no_group → marks' ≡ marks → ⊥
    leaves_marks z e = marks_only_pick (subst (λ (m : List ℕ). Same s (marked_set m) no_group) (sym e) z) (nothing_no_pick (empty_nothing s))

-- ---- on F2

module _ {groups links marks amounts marks' amounts' : List ℕ} (c : Lends f2 groups links marks amounts) where
  -- one that refuses whatever it gets
  pub refuses_everything : {x : Refusal} → ChooserSays 5 4 groups links marks amounts (Err x) marks' amounts' → ⊥
  refuses_everything x = refuses_admitted c f2_admitted x

  module _ {r : Result ℕ Refusal} (x : ChooserSays 5 4 groups links marks amounts r marks' amounts') where
    -- The marks are those of {1,4}, and the count is 4.
    pub f2_marks : Same f2 (marked_set marks') (set_of (1 ∷ 4 ∷ []))
    f2_marks = pick_one (owed c f2_admitted x).chooses.pick f2_pick

    pub f2_count : r ≡ Ok 4
    f2_count = let o = owed c f2_admitted x in o.is ∙ ap (λ (k : ℕ). Ok k) (rounds_one o.chooses.counted f2_rounds same_refl).0

    -- One that picks all groups: group 0 is not marked.
    pub all_groups_lem : Same f2 (marked_set marks') all_groups → ⊥
    all_groups_lem e = not_both (e.at 0 (omega arith)) (f2_marks.at 0 (omega arith))

    -- One that writes no mark: marks that were not those of {1,4} before the call may not stay as they were.
    pub writes_no_marks : (Same f2 (marked_set marks) (set_of (1 ∷ 4 ∷ [])) → ⊥) → marks' ≡ marks → ⊥
    writes_no_marks d e = d (subst (λ (m : List ℕ). Same f2 (marked_set m) (set_of (1 ∷ 4 ∷ []))) e f2_marks)

    -- One that stops after its first round: the set of F2's first round is {0,1,3,4}, and it is not marked, whatever the count.
    pub first_round_only : {S : Set} → Heaviest f2 (weights f2 all_groups) S → Same f2 (marked_set marks') S → ⊥
    first_round_only h e = not_both (e.at 0 (omega arith) ∙ (heaviest_one h f2_first_round).at 0 (omega arith)) (f2_marks.at 0 (omega arith))

  -- nor is its count, 1, allowed, with any marks
  pub counts_one_round : ChooserSays 5 4 groups links marks amounts (Ok 1) marks' amounts' → ⊥
  counts_one_round x = omega (arith, same_count_as (f2_count x))

  -- One that makes up the count of rounds: no count but 4 is allowed.
  pub invents_count : (k : ℕ) → (k ≡ 4 → ⊥) → ChooserSays 5 4 groups links marks amounts (Ok k) marks' amounts' → ⊥
  invents_count k d x = d (same_count_as (f2_count x))

-- ---- on F2 and F7

module _ {groups links marks amounts marks' amounts' : List ℕ} (c : Lends f2 groups links marks amounts)
    {groups₇ links₇ marks₇ amounts₇ marks₇' amounts₇' : List ℕ} (c₇ : Lends f7 groups₇ links₇ marks₇ amounts₇) where
  -- One that picks the same set every time: no set S is what an allowed answer marks in both.
  pub same_set :
      {r r₇ : Result ℕ Refusal} → ChooserSays 5 4 groups links marks amounts r marks' amounts' → ChooserSays 4 3 groups₇ links₇ marks₇ amounts₇ r₇ marks₇' amounts₇'
      → (S : Set) → Same f2 (marked_set marks') S → Same f7 (marked_set marks₇') S → ⊥
  same_set x y S e e₇ =
      not_both (sym (e₇.at 0 (omega arith)) ∙ (pick_one (owed c₇ f7_admitted y).chooses.pick f7_pick).at 0 (omega arith))
      (sym (e.at 0 (omega arith)) ∙ (f2_marks c x).at 0 (omega arith))

  -- One that always counts the same rounds: no count is allowed in both.
  pub same_count :
      (k : ℕ) → ChooserSays 5 4 groups links marks amounts (Ok k) marks' amounts'
      → ChooserSays 4 3 groups₇ links₇ marks₇ amounts₇ (Ok k) marks₇' amounts₇' → ⊥
  same_count k x y =
      let o = owed c₇ f7_admitted y in
      omega (arith, same_count_as (f2_count c x), same_count_as o.is, (rounds_one o.chooses.counted f7_rounds same_refl).0)
