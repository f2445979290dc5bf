-- Laws of the view: what it shows are the words of its block.
-- Assumes nothing.
use Rattle.std.proofs.Common.{◌≡◌, ℕ, ◌+◌, ◌-◌, ◌*◌, ◌<◌, ◌≤◌, eqb, List, length, get_or, ap, ◌∙◌, ap₂, arith, length-drop, length-take, get_or-drop, get_or-take}
use Rattle.survey.specs.Limits.{block_bytes}
use Rattle.survey.specs.Words.{word}
use Rattle.survey.specs.SurveyFile.{block_word, number_in}
use Rattle.views.specs.declared.view.Block.{Block}
use Rattle.views.specs.Views.{Within, block_of}
use Rattle.views.specs.BlockViews.{Views}

-- the part from a place to 512 past it has 512
pub part_size : (start : ℕ) → start + block_bytes - start ≡ block_bytes
part_size start = omega arith

module _ {f : List ℕ} {b : ℕ} (h : Within f b) where
  pub block_length : length (block_of f b) ≡ block_bytes
  unfolding block_of
  block_length = simp (length-take, length-drop) (omega arith)

  pub block_byte : (i : ℕ) → i < block_bytes → get_or (block_of f b) i 0 ≡ get_or f (block_bytes * b + i) 0
  unfolding block_of
  block_byte i l = rw (get_or-take, get_or-drop)

-- A view of block b shows the words of block b. That it has all 512 bytes is a ghost field of `Block`.
module _ {f : List ℕ} {b : ℕ} (d : Block) (h : Within f b) (e : Views d f b) where
  pub viewed_word : (w : ℕ) → 4 * w + 4 ≤ block_bytes → word d.bytes.now (4 * w) ≡ block_word f b w
  viewed_word w l = ap (λ (x : List ℕ). word x (4 * w)) e.bytes ∙ omega
      (arith, block_byte h (4 * w) (omega arith), byte 1 (omega arith), byte 2 (omega arith), byte 3 (omega arith))
    where
      byte : (k : ℕ) → k < 4 → get_or (block_of f b) (4 * w + k) 0 ≡ get_or f (block_bytes * b + 4 * w + k) 0
      byte k m = block_byte h (4 * w + k) (omega arith) ∙ ap (λ (i : ℕ). get_or f i 0) (omega arith)

  pub viewed_number : eqb (word d.bytes.now 0) d.number ≡ eqb (number_in f b) b
  viewed_number = ap₂ eqb (viewed_word 0 (omega arith)) e.number
