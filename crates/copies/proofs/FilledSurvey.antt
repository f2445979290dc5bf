-- Lists that are filled from a file give the file's survey.
-- Assumes nothing.
use Prim.Native.Nat.{ℕ, ◌+◌, ◌*◌, ◌/◌, ◌%◌, ◌≤◌, ◌<◌}
use mathlib.Core.Path.{◌≡◌, refl, ap, ap₂, ◌∙◌}
use mathlib.Core.Bool.{Bool, true, false, cond}
use mathlib.Core.List.{List}
use native.Mathlib.Nat.{add-zero}
use native.Mathlib.Omega.{arith}
use lib.Dec.{ltb}
use lib.ListN.{get_or}
use borrow.Author.Tests.{ltb-true}
use Rattle.survey.specs.declared.stands.Stand.{Stand}
use Rattle.survey.specs.Limits.{entry_bytes}
use Rattle.survey.specs.Words.{word, stands_at, lent, group_at, link_at, up_to, survey_at, survey_of}
use Rattle.survey.specs.SurveyFile.{n_in, e_in, first_group_block, first_link_block, in_blocks, survey_in}
use Rattle.survey.specs.Promises.{Filled}

-- a word of a filled entry: its first, j = 0, or its second, j = 4
filled_word :
    {before after f : List ℕ} {count : ℕ} {w : Stand} → Filled before after count f w → (k j : ℕ) → k < count → j + 4 ≤ entry_bytes
    → word after (stands_at lent k + j) ≡ word f (stands_at w k + j)
filled_word {before} {after} {f} {count} {w} p k j h l = omega (arith, simp add-zero at (byte 0 (omega arith)), byte 1 (omega arith), byte 2 (omega arith), byte 3 (omega arith))
  where
    byte : (m : ℕ) → m < 4 → get_or after (stands_at lent k + j + m) 0 ≡ get_or f (stands_at w k + j + m) 0
    byte m s =
        let turn : (stands_at lent k + j + m) / entry_bytes ≡ k = omega arith in
        let place : (stands_at lent k + j + m) % entry_bytes ≡ j + m = omega arith in
        p.first (stands_at lent k + j + m) (omega arith) ∙ ap₂ (λ (x y : ℕ). get_or f (stands_at w x + y) 0) turn place ∙ ap (λ (x : ℕ). get_or f x 0) (omega arith)

-- what two lists of entries have up to place n is equal where it is at each such place
up_to_same : {A : Type 0} (n : ℕ) (z : A) (x y : ℕ → A) → ((k : ℕ) → k < n → x k ≡ y k) → up_to n z x ≡ up_to n z y
up_to_same {A} n z x y h = λ i k. at k (ltb k n) refl i
  where
    at : (k : ℕ) (t : Bool) → ltb k n ≡ t → cond t (x k) z ≡ cond t (y k) z
    at k true e = h k (ltb-true k n e)
    at k false e = refl

module _ {before after f : List ℕ} {count : ℕ} {w : Stand} (p : Filled before after count f w) (k : ℕ) (h : k < count) where
  filled_group : group_at after lent k ≡ group_at f w k
  filled_group = λ i. record { dead = (simp add-zero at (filled_word p k 0 h (omega arith))) i; live = filled_word p k 4 h (omega arith) i }

  filled_link : link_at after lent k ≡ link_at f w k
  filled_link = λ i. record { from = (simp add-zero at (filled_word p k 0 h (omega arith))) i; to = filled_word p k 4 h (omega arith) i }

pub filled_survey :
    {f g g' l l' : List ℕ} → Filled g g' (n_in f) f (in_blocks first_group_block) → Filled l l' (e_in f) f (in_blocks (first_link_block (n_in f)))
    → survey_of (n_in f) (e_in f) g' l' ≡ survey_in f
unfolding survey_at
filled_survey {f} {g} {g'} {l} {l'} p q =
    λ i. record {
      n = n_in f;
      e = e_in f;
      group = up_to_same (n_in f) (record { dead = 0; live = 0 }) (group_at g' lent) (group_at f (in_blocks first_group_block)) (λ k h. filled_group p k h) i;
      link = up_to_same (e_in f) (record { from = 0; to = 0 }) (link_at l' lent) (link_at f (in_blocks (first_link_block (n_in f)))) (λ k h. filled_link q k h) i;
    }

-- Two pairs of lists that begin with the same entries give the same survey.
pub same_entries :
    (n e : ℕ) (g g' l l' : List ℕ) → ((i : ℕ) → i < entry_bytes * n → get_or g i 0 ≡ get_or g' i 0)
    → ((i : ℕ) → i < entry_bytes * e → get_or l i 0 ≡ get_or l' i 0)
    → survey_of n e g l ≡ survey_of n e g' l'
unfolding survey_at
same_entries n e g g' l l' p q =
    λ i. record {
      n = n;
      e = e;
      group =
          up_to_same n (record { dead = 0; live = 0 }) (group_at g lent) (group_at g' lent)
          (λ k h i. record { dead = (simp add-zero at (same_word n g g' p k 0 h (omega arith))) i; live = same_word n g g' p k 4 h (omega arith) i }) i;
      link =
          up_to_same e (record { from = 0; to = 0 }) (link_at l lent) (link_at l' lent)
          (λ k h i. record { from = (simp add-zero at (same_word e l l' q k 0 h (omega arith))) i; to = same_word e l l' q k 4 h (omega arith) i }) i;
    }
  where
    same_word :
        (c : ℕ) (x y : List ℕ) → ((i : ℕ) → i < entry_bytes * c → get_or x i 0 ≡ get_or y i 0) → (k j : ℕ) → k < c → j + 4 ≤ entry_bytes
        → word x (stands_at lent k + j) ≡ word y (stands_at lent k + j)
    same_word c x y s k j h m =
        let at = stands_at lent k + j in
        omega (arith, simp add-zero at (s (at + 0) (omega arith)), s (at + 1) (omega arith), s (at + 2) (omega arith), s (at + 3) (omega arith))
