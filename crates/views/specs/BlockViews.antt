-- The view of a block: its bytes, as they stand in the file, and its number (Specification 9).
use Rattle.std.specs.Prelude.{◌≡◌, ℕ, List}
use Rattle.views.specs.declared.view.Block.{Block}
use Rattle.views.specs.Views.{block_of}

-- the view of block b
pub record Views (r : Block) (f : List ℕ) (b : ℕ) : Type 0 where
  pub bytes : r.bytes.now ≡ block_of f b
  pub number : r.number ≡ b
