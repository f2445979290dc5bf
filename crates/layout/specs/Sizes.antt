-- The sizes that a file's counts are within.
use Rattle.std.specs.Prelude.{ℕ, ◌^◌, ◌<◌}

-- n and e as two words can say them, and a block of a file: what is counted of them does not wrap
pub record Countable (n e b : ℕ) : Type 0 where
  pub groups : n < 2 ^ 32
  pub links : e < 2 ^ 32
  pub block : b < 2 ^ 55
