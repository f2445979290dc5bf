-- Specification 15.4, the third wrong turn: the mean of the groups' own ratios in place of the ratio of the sums.
use Prim.Native.Nat.{ℕ, ◌*◌, ◌<◌}
use native.Mathlib.Omega.{arith}
use mathlib.Core.Path.{◌≡◌, refl}
use mathlib.Core.Bool.{Bool, true, not, ◌&&◌, ◌||◌}
use mathlib.Core.List.{List, [], ◌∷◌}
use lib.Dec.{ltb}
use lib.ListN.{get_or}
use Rattle.std.specs.Prelude.{Result}
use Rattle.survey.specs.declared.answers.Refusal.{Refusal}
use Rattle.survey.specs.Survey.{Survey}
use Rattle.survey.specs.Sets.{Set, Same, sum, total, dead_of, cost_of}
use Rattle.survey.specs.Pick.{Candidate, IsPick}
use Rattle.survey.specs.Words.{marked_set}
use Rattle.survey.specs.Promises.{ChooserSays}
use Rattle.survey.specs.Drawings.{set_of, Drawing, picks, sums, f2}
use Rattle.survey.proofs.Totals.{not_both}
use Rattle.survey.specs.Sound.{Inside}
use Rattle.survey.proofs.SameSets.{same_sym, same_refl, same_trans, candidate_same, total_same}
use Rattle.survey.proofs.Deciding.{Decides, told_iff, both, denied, implied, less, equal, all_below, all_below_lem}
use Rattle.survey.proofs.AllSets.{find_from, find_set, any_set, every_set, every_set_lem}
use Rattle.survey.proofs.SetTests.{inside_test, inside_told, contains_test, same_test, same_told, closed_test, eligible_test, candidate_test, candidate_told, best_test, pick_test}
use Rattle.survey.proofs.Drawings.{right, says_test, all_test, all_right, all_right_lem}
use Rattle.survey.proofs.Unique.{pick_one}
use Rattle.drawn.proofs.Calls.{Lends}
use Rattle.drawn.proofs.Benched.{uneven, f2_admitted, f2_pick, uneven_admitted}
use Rattle.useless.proofs.Choosers.{marks_only_pick}

-- How many groups a set has. The average of its groups' ratios is their sum over that number.
abbrev pub groups_in : Survey → Set → ℕ
groups_in s S = total s (λ g. 1) S

-- The ratios of what over by, group by group, counted in so many parts of 1, exactly: ratio / parts = what / by.
pub record Ratios (s : Survey) (what by : ℕ → ℕ) (parts : ℕ) (ratio : ℕ → ℕ) : Type 0 where
  pub exact : (g : ℕ) → g < s.n → ratio g * by g ≡ what g * parts

-- the average of A's ratios is below that of B's
abbrev pub AverageBelow : Survey → (ℕ → ℕ) → Set → Set → Type 0
AverageBelow s ratio A B = total s ratio A * groups_in s B < total s ratio B * groups_in s A

abbrev pub AverageAbove : Survey → (ℕ → ℕ) → Set → Set → Type 0
AverageAbove s ratio A B = AverageBelow s ratio B A

-- The wrong turn takes S: it goes before every other candidate.
pub record Takes (s : Survey) (Before : Set → Set → Type 0) (S : Set) : Type 0 where
  pub candidate : Candidate s S
  pub first : (B : Set) → Candidate s B → (Same s B S → ⊥) → Before S B

-- ---- decided by computing

abbrev below_test : Survey → (ℕ → ℕ) → Set → Set → Bool
below_test s ratio A B = ltb (total s ratio A * groups_in s B) (total s ratio B * groups_in s A)

below_told : (s : Survey) (ratio : ℕ → ℕ) (A B : Set) → Decides (AverageBelow s ratio A B) (below_test s ratio A B)
below_told s ratio A B = less (total s ratio A * groups_in s B) (total s ratio B * groups_in s A)

below_same : {s : Survey} (ratio : ℕ → ℕ) {A A' B B' : Set} → Same s A A' → Same s B B' → AverageBelow s ratio A B → AverageBelow s ratio A' B'
below_same ratio d e h = rw (← total_same d ratio, ← total_same d (λ g. 1), ← total_same e ratio, ← total_same e (λ g. 1)) h

unfoldable takes_test : Survey → (Set → Set → Bool) → Set → Bool
takes_test s before S = candidate_test s S && every_set s (λ B. not (candidate_test s B) || (not (not (same_test s B S)) || before S B))

takes_told :
    {s : Survey} → Inside s → (Before : Set → Set → Type 0) (before : Set → Set → Bool) (S : Set) → ((A B : Set) → Same s A B → Before S A → Before S B)
    → ((B : Set) → Decides (Before S B) (before S B)) → Decides (Takes s Before S) (takes_test s before S)
unfolding takes_test
takes_told {s} i Before before S steady told =
    told_iff (λ z. record { candidate = z.0; first = z.1 }) (λ x. (x.candidate, x.first))
    (both (candidate_told s S)
    (λ z. every_set_lem (λ A B e f c d. steady A B e (f (candidate_same i (same_sym e) c) (λ same. d (same_trans (same_sym e) same))))
    (λ B. implied (candidate_told s B) (λ c. implied (denied (same_told s B S)) (λ d. told B)))))

takes_least : (s : Survey) (ratio : ℕ → ℕ) (S : Set) → inside_test s && takes_test s (below_test s ratio) S ≡ true → Takes s (AverageBelow s ratio) S
takes_least s ratio S h =
    ((both (inside_told s)
    (λ i. takes_told i (AverageBelow s ratio) (below_test s ratio) S (λ A B e b. below_same ratio same_refl e b) (λ B. below_told s ratio S B))).so h).1

takes_most : (s : Survey) (ratio : ℕ → ℕ) (S : Set) → inside_test s && takes_test s (λ A B. below_test s ratio B A) S ≡ true → Takes s (AverageAbove s ratio) S
takes_most s ratio S h =
    ((both (inside_told s)
    (λ i. takes_told i (AverageAbove s ratio) (λ A B. below_test s ratio B A) S (λ A B e b. below_same ratio e same_refl b) (λ B. below_told s ratio B S))).so h).1

-- ---- F2, by least live for the dead

-- live over dead, in 60ths: 2/2, 3/4, 12/1, 3/6, 3/10
abbrev pub f2_ratio : ℕ → ℕ
f2_ratio g = get_or (60 ∷ 45 ∷ 720 ∷ 30 ∷ 18 ∷ []) g 0

pub f2_ratios : Ratios f2 (cost_of f2) (dead_of f2) 60 f2_ratio
unfolding all_below
f2_ratios = record { exact = (all_below_lem 5 (λ g l. equal (f2_ratio g * dead_of f2 g) (cost_of f2 g * 60))).so refl }

-- Averages would take {1,3,4}, 31/60, before {1,4}, 63/120.
pub average_takes : Takes f2 (AverageBelow f2 f2_ratio) (set_of (1 ∷ 3 ∷ 4 ∷ []))
unfolding takes_test inside_test contains_test same_test closed_test eligible_test candidate_test sum total all_below find_from find_set any_set every_set
average_takes = takes_least f2 f2_ratio (set_of (1 ∷ 3 ∷ 4 ∷ [])) refl

-- It is not the pick, and no allowed answer to a call that lends F2 marks it.
pub average_no_pick : IsPick f2 (set_of (1 ∷ 3 ∷ 4 ∷ [])) → ⊥
average_no_pick p = not_both refl ((pick_one p f2_pick).at 3 (omega arith))

pub averages_on_f2 :
    {groups links marks amounts marks' amounts' : List ℕ} {r : Result ℕ Refusal} → Lends f2 groups links marks amounts
    → ChooserSays 5 4 groups links marks amounts r marks' amounts' → Same f2 (marked_set marks') (set_of (1 ∷ 3 ∷ 4 ∷ [])) → ⊥
averages_on_f2 c x e = marks_only_pick c f2_admitted x e average_no_pick

-- ---- a drawing that neither average gets right: 1:2, 2:3, 4:5; links (0,1) (0,2)

-- live over dead, in 4ths: 2/1, 3/2, 5/4; dead over live, in 30ths: 1/2, 2/3, 4/5
abbrev pub live_for_dead : ℕ → ℕ
live_for_dead g = get_or (8 ∷ 6 ∷ 5 ∷ []) g 0

abbrev pub dead_for_live : ℕ → ℕ
dead_for_live g = get_or (15 ∷ 20 ∷ 24 ∷ []) g 0

pub live_for_dead_lem : Ratios uneven (cost_of uneven) (dead_of uneven) 4 live_for_dead
unfolding all_below
live_for_dead_lem = record { exact = (all_below_lem 3 (λ g l. equal (live_for_dead g * dead_of uneven g) (cost_of uneven g * 4))).so refl }

pub dead_for_live_lem : Ratios uneven (dead_of uneven) (cost_of uneven) 30 dead_for_live
unfolding all_below
dead_for_live_lem = record { exact = (all_below_lem 3 (λ g l. equal (dead_for_live g * cost_of uneven g) (dead_of uneven g * 30))).so refl }

-- By the least average of live for the dead, and by the greatest of dead for the live, all groups would be taken.
pub least_average_takes : Takes uneven (AverageBelow uneven live_for_dead) (set_of (0 ∷ 1 ∷ 2 ∷ []))
unfolding takes_test inside_test contains_test same_test closed_test eligible_test candidate_test sum total all_below find_from find_set any_set every_set
least_average_takes = takes_least uneven live_for_dead (set_of (0 ∷ 1 ∷ 2 ∷ [])) refl

pub most_average_takes : Takes uneven (AverageAbove uneven dead_for_live) (set_of (0 ∷ 1 ∷ 2 ∷ []))
unfolding takes_test inside_test contains_test same_test closed_test eligible_test candidate_test sum total all_below find_from find_set any_set every_set
most_average_takes = takes_most uneven dead_for_live (set_of (0 ∷ 1 ∷ 2 ∷ [])) refl

-- The pick is {0,2}, 5 and 7: all groups, 7 and 10, have more live for their dead.
abbrev uneven_drawings : List Drawing
uneven_drawings = picks uneven (0 ∷ 2 ∷ []) ∷ sums uneven (0 ∷ 2 ∷ []) 5 7 ∷ sums uneven (0 ∷ 1 ∷ 2 ∷ []) 7 10 ∷ []

uneven_right : all_right uneven_drawings ≡ true
unfolding all_right all_test right says_test inside_test contains_test closed_test eligible_test candidate_test best_test pick_test
    sum total all_below find_from find_set any_set every_set
uneven_right = refl

pub uneven_pick : IsPick uneven (set_of (0 ∷ 2 ∷ []))
uneven_pick = (all_right_lem uneven_drawings uneven_right).0

pub averages_no_pick : IsPick uneven (set_of (0 ∷ 1 ∷ 2 ∷ [])) → ⊥
averages_no_pick p = not_both refl ((pick_one p uneven_pick).at 1 (omega arith))

pub averages :
    {groups links marks amounts marks' amounts' : List ℕ} {r : Result ℕ Refusal} → Lends uneven groups links marks amounts
    → ChooserSays 3 2 groups links marks amounts r marks' amounts' → Same uneven (marked_set marks') (set_of (0 ∷ 1 ∷ 2 ∷ [])) → ⊥
averages c x e = marks_only_pick c uneven_admitted x e averages_no_pick
