-- Sets of at most 128 groups as the binary digits of two words of 64 bits, and rows of such sets in a list of words: row g is the words at places 2·g and
-- 2·g + 1, and group h of it is digit h % 64 of the word at place 2·g + h / 64.
use Rattle.std.specs.Prelude.{ℕ, ◌+◌, ◌*◌, ◌/◌, ◌%◌, ◌^◌, List, get_or, set}
use Rattle.std.specs.Int.Bits.{bit_or, bit_xor}

-- digit i of a word, lowest first
unfoldable pub digit : ℕ → ℕ → ℕ
digit w i = w / 2 ^ i % 2

-- whether row g has h: 1 or 0
unfoldable pub bit : List ℕ → ℕ → ℕ → ℕ
unfolding digit
bit m g h = digit (get_or m (2 * g + h / 64) 0) (h % 64)

-- the word with digit i, and without it
abbrev pub with : ℕ → ℕ → ℕ
with w i = bit_or w (2 ^ i)

abbrev pub without : ℕ → ℕ → ℕ
without w i = bit_xor (bit_or w (2 ^ i)) (2 ^ i)

-- rows with h put into row g, and with h cut from it
abbrev pub put_bit : List ℕ → ℕ → ℕ → List ℕ
put_bit m g h = set m (2 * g + h / 64) (with (get_or m (2 * g + h / 64) 0) (h % 64))

abbrev pub cut_bit : List ℕ → ℕ → ℕ → List ℕ
cut_bit m g h = set m (2 * g + h / 64) (without (get_or m (2 * g + h / 64) 0) (h % 64))
