-- The mark of a group as it begins.
-- Assumes nothing.
use Rattle.std.proofs.Common.{◌≤◌, ◌<◌, ℕ, arith}
use Rattle.flow.specs.Drains.{FirstMark, lacking, level}

pub marked_lacking : {a : ℕ} → 0 < a → FirstMark a 1
marked_lacking = lacking

pub marked_level : {a : ℕ} → a ≤ 0 → FirstMark a 0
marked_level h = level (omega arith)
