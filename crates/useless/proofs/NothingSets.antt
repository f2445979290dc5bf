-- Specification 5.1: sets that have nothing, 0:0, are left out of every comparison. Next to one, each side of a cross product would be 0, and all
-- would look equally good.
use Prim.Native.Nat.{ℕ, ◌*◌}
use native.Mathlib.Nat.{mul-zero, zero-mul}
use native.Mathlib.Omega.{arith}
use mathlib.Core.Path.{◌≡◌, refl, sym, ap, ◌∙◌}
use mathlib.Core.List.{[], ◌∷◌}
use Rattle.survey.specs.Survey.{Survey}
use Rattle.survey.specs.Sets.{Set, no_group, sum, total, dead_of, cost_of, D, L}
use Rattle.survey.specs.Pick.{Candidate, BetterSet, IsPick}
use Rattle.survey.specs.Drawings.{set_of, with_empty_group}
use Rattle.survey.proofs.Totals.{not_both, total_zero}

-- a 0:0 set: the empty one, or one whose groups have nothing in them
pub record HasNothing (s : Survey) (Z : Set) : Type 0 where
  pub dead : D s Z ≡ 0
  pub live : L s Z ≡ 0

-- Neither of the two is ever better.
module _ {s : Survey} {Z : Set} (z : HasNothing s Z) where
  pub products_equal : (B : Set) → L s Z * D s B ≡ L s B * D s Z
  products_equal B =
      ap (λ (x : ℕ). x * D s B) z.live ∙ zero-mul (D s B) ∙ sym (mul-zero (L s B)) ∙ ap (λ (x : ℕ). L s B * x) (sym z.dead)

  pub none_beats_nothing : (B : Set) → BetterSet s B Z → ⊥
  none_beats_nothing B h = omega (arith, products_equal B)

  pub nothing_beats_none : (B : Set) → BetterSet s Z B → ⊥
  nothing_beats_none B h = omega (arith, products_equal B)

  -- So it would stand unbeaten. But with nothing dead it is no candidate, and so not the pick.
  pub nothing_no_candidate : Candidate s Z → ⊥
  nothing_no_candidate c = omega (arith, c.dead, z.dead)

  pub nothing_no_pick : IsPick s Z → ⊥
  nothing_no_pick p = nothing_no_candidate p.best.candidate

-- The empty set is one.
pub empty_nothing : (s : Survey) → HasNothing s no_group
empty_nothing s =
    record { dead = total_zero s (dead_of s) no_group (λ g l m. absurd (not_both m refl)); live = total_zero s (cost_of s) no_group (λ g l m. absurd (not_both m refl)) }

-- Such a set in a drawing, 3:0, 5:1 and 0:0: {2} has nothing.
pub empty_group_nothing : HasNothing with_empty_group (set_of (2 ∷ []))
unfolding sum total
empty_group_nothing = record { dead = refl; live = refl }
