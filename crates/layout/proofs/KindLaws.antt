-- A kind's number tells the kind. A block is the header, a group block or a link block, and what its kind and its used words are follows from that.
-- Assumes nothing.
use Prim.Native.Nat.{ℕ, ◌-◌, ◌*◌, ◌≤◌, ◌<◌}
use mathlib.Core.Path.{◌≡◌, refl}
use mathlib.Core.Bool.{Bool, true, false}
use native.Mathlib.Omega.{arith}
use lib.Dec.{eqb, leb}
use borrow.Author.Tests.{eqb-true, eqb-false, leb-true, leb-false}
use Rattle.survey.specs.Limits.{block_pairs}
use Rattle.survey.specs.SurveyFile.{first_group_block, first_link_block, kind_of, pair_words, used_words}
use Rattle.layout.specs.declared.Kind.{Kind}
use Rattle.layout.specs.declared.Kind.TheVariants.{Header, Groups, Links}
use Rattle.layout.specs.Kinds.{number_of}

-- two kinds with one number are one kind
pub kind_one : (x y : Kind) → number_of x ≡ number_of y → x ≡ y
kind_one Header Header e = refl
kind_one Header Groups e = absurd (omega arith)
kind_one Header Links e = absurd (omega arith)
kind_one Groups Header e = absurd (omega arith)
kind_one Groups Groups e = refl
kind_one Groups Links e = absurd (omega arith)
kind_one Links Header e = absurd (omega arith)
kind_one Links Groups e = absurd (omega arith)
kind_one Links Links e = refl

-- the three sorts, each with its place, its kind and its used words
pub data BlockSort (n e b : ℕ) : Type 0 where
  header : b ≡ 0 → kind_of n b ≡ 1 → used_words n e b ≡ 4 → BlockSort n e b
  groups : 0 < b → b < first_link_block n → kind_of n b ≡ 2 → used_words n e b ≡ pair_words (n - block_pairs * (b - first_group_block)) → BlockSort n e b
  links : first_link_block n ≤ b → kind_of n b ≡ 3 → used_words n e b ≡ pair_words (e - block_pairs * (b - first_link_block n)) → BlockSort n e b

module _ (n e b : ℕ) where
  pub sort_of : BlockSort n e b
  sort_of = go (eqb b 0) refl (leb (first_link_block n) b) refl
    where
      go : (s : Bool) → eqb b 0 ≡ s → (t : Bool) → leb (first_link_block n) b ≡ t → BlockSort n e b
      go true p t q = header (eqb-true b 0 p) (rw p) (rw p)
      go false p true q = links (leb-true (first_link_block n) b q) (simp (p, q)) (simp (p, q))
      go false p false q = groups (above (eqb-false b 0 p)) (leb-false (first_link_block n) b q) (simp (p, q)) (simp (p, q))
        where
          above : (b ≡ 0 → ⊥) → 0 < b
          above d = omega arith
