-- Where a block stands in a file (Specification 9).
use Rattle.std.specs.Prelude.{ℕ, ◌+◌, ◌*◌, ◌≤◌, List, length, take, drop}
use Rattle.survey.specs.Limits.{block_bytes}

-- block b lies within the file
pub record Within (f : List ℕ) (b : ℕ) : Type 0 where
  pub fits : block_bytes * b + block_bytes ≤ length f

-- the bytes of block b
unfoldable pub block_of : List ℕ → ℕ → List ℕ
block_of f b = take block_bytes (drop (block_bytes * b) f)
