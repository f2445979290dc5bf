-- What a file is in which none of the faults 2 to 7 is there, by name, so that nobody counts the rows of the table.
-- Assumes nothing.
use Prim.Native.Nat.{ℕ, ◌+◌, ◌*◌, ◌/◌, ◌%◌, ◌≤◌, ◌<◌}
use mathlib.Core.Path.{◌≡◌, refl, sym, ap, subst, ◌∙◌}
use mathlib.Core.Logic.{inl, inr}
use mathlib.Core.List.{List}
use native.Mathlib.Decide.{ℕ_discrete}
use native.Mathlib.Omega.{arith}
use lib.ListN.{length}
use Rattle.survey.specs.Limits.{block_bytes, block_pairs}
use Rattle.survey.specs.Words.{block_of_pair}
use Rattle.survey.specs.SurveyFile.{block_count, CheckAgrees, number_in, kind_in, kind_of, n_in, e_in, blocks_for, first_group_block}
use Rattle.survey.specs.SurveyFile.{first_link_block, blocks_needed, UnusedAreZero}
use Rattle.survey.specs.Refusals.{Clear, AllClear}
use Rattle.survey.specs.Faults.{bad_length, bad_check, bad_block_count, bad_kind, bad_unused, AdmittedFile}
use Rattle.views.specs.Views.{Within}
use Rattle.blocks.specs.FileFaults.{block_faults}

-- a file of n groups and e links
pub record Layout (f : List ℕ) (n e : ℕ) : Type 0 where
  pub groups : n_in f ≡ n
  pub links : e_in f ≡ e
  pub long : length f ≡ block_bytes * blocks_needed n e
  pub checks : (b : ℕ) → b < blocks_needed n e → CheckAgrees f b
  pub numbers : (b : ℕ) → b < blocks_needed n e → number_in f b ≡ b
  pub kinds : (b : ℕ) → b < blocks_needed n e → kind_in f b ≡ kind_of n b
  pub zeros : (b : ℕ) → b < blocks_needed n e → UnusedAreZero f n e b

-- each of its blocks lies within it
pub layout_within : {f : List ℕ} {n e : ℕ} → Layout f n e → (b : ℕ) → b < blocks_needed n e → Within f b
layout_within {n = n} {e = e} l b m = record { fits = omega (arith, l.long, whole (blocks_needed n e) b m) }
  where
    whole : (x y : ℕ) → y < x → block_bytes * y + block_bytes ≤ block_bytes * x
    whole x y h = omega arith

-- and so does the block of each of its groups and links
module _ {f : List ℕ} {n e : ℕ} (l : Layout f n e) where
  pub groups_within : (k : ℕ) → k < n → Within f (block_of_pair first_group_block k)
  groups_within k h =
      let last : k / block_pairs < blocks_for n = omega arith in
      layout_within l (block_of_pair first_group_block k) (omega arith)

  pub links_within : (k : ℕ) → k < e → Within f (block_of_pair (first_link_block n) k)
  links_within k h =
      let last : k / block_pairs < blocks_for e = omega arith in
      layout_within l (block_of_pair (first_link_block n) k) (omega arith)

-- that two numbers are equal can be told
equal : {x y : ℕ} → ((x ≡ y → ⊥) → ⊥) → x ≡ y
equal {x} {y} d = go (ℕ_discrete x y)
  where
    go : Dec (x ≡ y) → x ≡ y
    go (yes p) = p
    go (no n) = absurd (d n)

-- where no number or kind is wrong, each kind is right
pub clear_kind : (f : List ℕ) → Clear (bad_kind f) → (b : ℕ) → b < block_count f → kind_in f b ≡ kind_of (n_in f) b
clear_kind f clear b m = equal (λ d. clear.none b m (λ c. d c.1))

module _ {f : List ℕ} (length-clear : Clear (bad_length f)) (check-clear : Clear (bad_check f)) (count-clear : Clear (bad_block_count f)) (kind-clear : Clear (bad_kind f))
    (unused-clear : Clear (bad_unused f)) where
  count : block_count f ≡ blocks_needed (n_in f) (e_in f)
  count = equal (count-clear.none 0 (omega arith))

  below : (b : ℕ) → b < blocks_needed (n_in f) (e_in f) → b < block_count f
  below b m = subst (λ (x : ℕ). b < x) (sym count) m

  cleared_layout : Layout f (n_in f) (e_in f)
  cleared_layout =
      record {
        groups = refl;
        links = refl;
        long = whole (λ l. length-clear.none 0 (omega arith) (inr (inl l))) ∙ ap (λ (x : ℕ). block_bytes * x) count;
        checks = λ b m. record { first = equal (λ d. check-clear.none b (below b m) (λ c. d c.first)); second = equal (λ d. check-clear.none b (below b m) (λ c. d c.second)) };
        numbers = λ b m. equal (λ d. kind-clear.none b (below b m) (λ c. d c.0));
        kinds = λ b m. clear_kind f kind-clear b (below b m);
        zeros = λ b m. record { at = λ w u l. equal (λ d. unused-clear.none b (below b m) (λ c. d (c.at w u l))) };
      }
    where
      whole : (0 < length f % block_bytes → ⊥) → length f ≡ block_bytes * block_count f
      whole d = omega arith

pub clear_layout : {f : List ℕ} → AllClear (block_faults f) → Layout f (n_in f) (e_in f)
unfolding AllClear
clear_layout c = cleared_layout c.0 c.1.0 c.1.1.1.1.0 c.1.1.1.1.1.0 c.1.1.1.1.1.1.0

pub admitted_layout : {f : List ℕ} → AdmittedFile f → Layout f (n_in f) (e_in f)
unfolding AllClear
admitted_layout a = cleared_layout a.clear.0 a.clear.1.0 a.clear.1.1.1.1.0 a.clear.1.1.1.1.1.0 a.clear.1.1.1.1.1.1.0
