-- Specification 14, "Printing": text is a list of bytes, in ASCII. The words that are printed, and numbers in decimal.
use Rattle.std.specs.Prelude.{ℕ, zero, suc, ◌+◌, ◌/◌, ◌%◌, cond, List, [], ◌∷◌, ◌++◌, ltb}

-- 14.4: each line ends in a line feed.
abbrev pub line_feed : List ℕ
line_feed = 10 ∷ []

-- 14.4: what stands between a word and a number
abbrev pub space : List ℕ
space = 32 ∷ []

-- 14.2: `survey` and a space
abbrev pub survey_word : List ℕ
survey_word = 115 ∷ 117 ∷ 114 ∷ 118 ∷ 101 ∷ 121 ∷ 32 ∷ []

-- 14.2: `chosen` and a space
abbrev pub chosen_word : List ℕ
chosen_word = 99 ∷ 104 ∷ 111 ∷ 115 ∷ 101 ∷ 110 ∷ 32 ∷ []

-- 14.2: `dead` between spaces
abbrev pub dead_word : List ℕ
dead_word = 32 ∷ 100 ∷ 101 ∷ 97 ∷ 100 ∷ 32 ∷ []

-- 14.2: `live` between spaces
abbrev pub live_word : List ℕ
live_word = 32 ∷ 108 ∷ 105 ∷ 118 ∷ 101 ∷ 32 ∷ []

-- 14.2: `rounds` between spaces
abbrev pub rounds_word : List ℕ
rounds_word = 32 ∷ 114 ∷ 111 ∷ 117 ∷ 110 ∷ 100 ∷ 115 ∷ 32 ∷ []

-- 14.3: `refused` and a space
abbrev pub refused_word : List ℕ
refused_word = 114 ∷ 101 ∷ 102 ∷ 117 ∷ 115 ∷ 101 ∷ 100 ∷ 32 ∷ []

-- 14.4: the digits 0 to 9
abbrev pub digit : ℕ → ℕ
digit d = 48 + d

-- 14.4, a number in decimal: below 10 its digit, else its tenth in decimal and then its last digit. It is cut short after k tenths.
unfoldable pub tenths : ℕ → ℕ → List ℕ
tenths zero x = digit x ∷ []
tenths (suc k) x = cond (ltb x 10) (digit x ∷ []) (tenths k (x / 10) ++ digit (x % 10) ∷ [])

-- 14.4: a number in decimal. After x tenths nothing is cut off: each is less than the one before it.
unfoldable pub decimal : ℕ → List ℕ
decimal x = tenths x x

-- 14.4: a word with its number
abbrev pub named : List ℕ → ℕ → List ℕ
named word x = word ++ decimal x
