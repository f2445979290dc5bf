-- Specification 15.4, the second wrong turn: beginning with the best single group and all that leads to it, and letting that grow. On F7 it ends at {0}.
use Prim.Native.Nat.{ℕ, zero, suc, ◌<◌}
use mathlib.Core.Path.{refl, ap, ◌∙◌}
use mathlib.Core.Bool.{Bool, not, ◌&&◌, ◌||◌}
use mathlib.Core.List.{List, [], ◌∷◌}
use Rattle.std.specs.Prelude.{Result}
use Rattle.survey.specs.declared.answers.Refusal.{Refusal}
use Rattle.survey.specs.Survey.{Survey}
use Rattle.survey.specs.Sets.{Set, In, Same, Contains, Eligible, all_groups, union, sum, total}
use Rattle.survey.specs.Pick.{BetterSet, IsPick}
use Rattle.survey.specs.Words.{marked_set}
use Rattle.survey.specs.Promises.{ChooserSays}
use Rattle.survey.specs.Drawings.{set_of, f7}
use Rattle.survey.specs.Sound.{Inside}
use Rattle.survey.proofs.SameSets.{same_refl, same_sym, contains_both, contains_same, eligible_same, better_same}
use Rattle.survey.proofs.Admitted.{admitted_sound}
use Rattle.survey.proofs.Deciding.{Decides, told_iff, both, denied, implied, is_in, all_below, all_below_lem}
use Rattle.survey.proofs.AllSets.{find_from, find_set, any_set, every_set, every_set_lem}
use Rattle.survey.proofs.SetTests.{contains_test, contains_told, closed_test, eligible_test, eligible_told, candidate_test, candidate_told, better_told}
use Rattle.drawn.proofs.Calls.{Lends}
use Rattle.drawn.proofs.Benched.{f7_admitted}
use Rattle.useless.proofs.Choosers.{marks_only_pick}

-- group g with its ancestors, which are all that leads to it: the least closed set that has g
pub record WithAncestors (s : Survey) (g : ℕ) (S : Set) : Type 0 where
  pub eligible : Eligible s S
  pub has : In S g
  pub least : (B : Set) → Eligible s B → In B g → Contains s B S

-- there is one such set
ancestors_one : {s : Survey} {g : ℕ} {A B : Set} → WithAncestors s g A → WithAncestors s g B → Same s A B
ancestors_one {A = A} {B = B} a b = contains_both (b.least A a.eligible a.has) (a.least B b.eligible b.has)

unfoldable ancestors_test : Survey → ℕ → Set → Bool
ancestors_test s g S = eligible_test s S && (S g && every_set s (λ B. not (eligible_test s B) || (not (B g) || contains_test s B S)))

ancestors_told : {s : Survey} → Inside s → (g : ℕ) → g < s.n → (S : Set) → Decides (WithAncestors s g S) (ancestors_test s g S)
unfolding ancestors_test
ancestors_told {s} i g l S =
    told_iff (λ z. record { eligible = z.0; has = z.1.0; least = z.1.1 }) (λ x. (x.eligible, (x.has, x.least)))
    (both (eligible_told s S)
    (λ z. both (is_in (S g))
    (λ z. every_set_lem (λ A B e f c h. contains_same e same_refl (f (eligible_same i (same_sym e) c) (e.at g l ∙ h)))
    (λ B. implied (eligible_told s B) (λ z. implied (is_in (B g)) (λ z. contains_told s B S))))))

-- each group of F7 with its ancestors
abbrev pub ancestors : ℕ → List ℕ
ancestors zero = 0 ∷ []
ancestors (suc zero) = 0 ∷ 1 ∷ []
ancestors (suc (suc zero)) = 0 ∷ 1 ∷ 2 ∷ []
ancestors (suc (suc (suc g))) = 0 ∷ 1 ∷ 3 ∷ []

pub f7_ancestors : (g : ℕ) → g < 4 → WithAncestors f7 g (set_of (ancestors g))
unfolding ancestors_test contains_test closed_test eligible_test all_below find_from find_set any_set every_set
f7_ancestors = (all_below_lem 4 (λ g l. ancestors_told (admitted_sound f7_admitted).inside g l (set_of (ancestors g)))).so refl

-- ---- F7

none_better : (g : ℕ) → g < 4 → BetterSet f7 (set_of (ancestors g)) (set_of (0 ∷ [])) → ⊥
unfolding sum total all_below
none_better = (all_below_lem 4 (λ g l. denied (better_told f7 (set_of (ancestors g)) (set_of (0 ∷ []))))).so refl

none_grown_better : (g : ℕ) → g < 4 → BetterSet f7 (union (set_of (0 ∷ [])) (set_of (ancestors g))) (set_of (0 ∷ [])) → ⊥
unfolding sum total all_below
none_grown_better = (all_below_lem 4 (λ g l. denied (better_told f7 (union (set_of (0 ∷ [])) (set_of (ancestors g))) (set_of (0 ∷ []))))).so refl

-- The wrong turn begins with {0}: no group with its ancestors is better.
pub growing_begins : (g : ℕ) → g < 4 → (S : Set) → WithAncestors f7 g S → BetterSet f7 S (set_of (0 ∷ [])) → ⊥
growing_begins g l S w b = none_better g l (better_same (ancestors_one w (f7_ancestors g l)) same_refl b)

-- And there it stops: with any one group and its ancestors put to it, it gets no better.
pub growing_stops : (g : ℕ) → g < 4 → (S : Set) → WithAncestors f7 g S → BetterSet f7 (union (set_of (0 ∷ [])) S) (set_of (0 ∷ [])) → ⊥
growing_stops g l S w b = none_grown_better g l (better_same (joined (ancestors_one w (f7_ancestors g l))) same_refl b)
  where
    joined : {A B : Set} → Same f7 A B → Same f7 (union (set_of (0 ∷ [])) A) (union (set_of (0 ∷ [])) B)
    joined e = record { at = λ h m. ap (λ (t : Bool). set_of (0 ∷ []) h || t) (e.at h m) }

-- But all groups together are better, so {0} is not the pick, and no allowed answer to a call that lends F7 marks it.
pub growing_beaten : BetterSet f7 all_groups (set_of (0 ∷ []))
unfolding sum total
growing_beaten = (better_told f7 all_groups (set_of (0 ∷ []))).so refl

pub growing_no_pick : IsPick f7 (set_of (0 ∷ [])) → ⊥
unfolding candidate_test eligible_test closed_test sum total all_below
growing_no_pick p = p.best.unbeaten all_groups ((candidate_told f7 all_groups).so refl) growing_beaten

pub grows_one_at_a_time :
    {groups links marks amounts marks' amounts' : List ℕ} {r : Result ℕ Refusal} → Lends f7 groups links marks amounts
    → ChooserSays 4 3 groups links marks amounts r marks' amounts' → Same f7 (marked_set marks') (set_of (0 ∷ [])) → ⊥
grows_one_at_a_time c x e = marks_only_pick c f7_admitted x e growing_no_pick
