-- Specification 2, "Limits": each number here and nowhere else.
use Rattle.std.specs.Prelude.{ℕ, ◌*◌}

-- 2: the most groups of a survey; the least is 1
abbrev pub group_limit : ℕ
group_limit = 128

-- 2: the most links of a survey; there may be none
abbrev pub link_limit : ℕ
link_limit = 1_024

-- 2: the most that a count comes to, dead or live
abbrev pub count_limit : ℕ
count_limit = 1_000_000

-- 2: the most that a claim puts on a link
abbrev pub amount_limit : ℕ
amount_limit = 20_000_000_000_000_000

-- 2: the bytes of a block
abbrev pub block_bytes : ℕ
block_bytes = 512

-- 2: the words of a block that its check covers; two more hold the check
abbrev pub content_words : ℕ
content_words = 126

-- 2: the pairs that one block has room for
abbrev pub block_pairs : ℕ
block_pairs = 62

-- 2: the bytes of a group, a link or an amount, in a lent list and in a file alike
abbrev pub entry_bytes : ℕ
entry_bytes = 8

-- 2: what D or L of a set can come to: so many groups with so many objects each
abbrev pub sum_limit : ℕ
sum_limit = group_limit * count_limit
