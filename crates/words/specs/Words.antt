-- Numbers written into bytes, low byte first.
use Rattle.std.specs.Prelude.{ℕ, zero, suc, ◌/◌, ◌%◌, ◌<◌, List, [], ◌∷◌, get_or}
use Rattle.std.proofs.lemmas.List.Edits.{sets}

-- the lowest so many bytes of a number, low byte first
abbrev pub bytes_of : ℕ → ℕ → List ℕ
bytes_of zero x = []
bytes_of (suc width) x = x % 256 ∷ bytes_of width (x / 256)

-- a list of bytes in which the 4 bytes from place i on are those of x
unfoldable pub with_word : List ℕ → ℕ → ℕ → List ℕ
with_word l i x = sets l i (bytes_of 4 x)

-- a list of bytes in which the 8 bytes from place i on are those of x
unfoldable pub with_long_word : List ℕ → ℕ → ℕ → List ℕ
with_long_word l i x = sets l i (bytes_of 8 x)

-- each number of the list is a byte, as in every lent list of bytes
pub record Bytes (l : List ℕ) : Type 0 where
  pub small : (k : ℕ) → get_or l k 0 < 256
