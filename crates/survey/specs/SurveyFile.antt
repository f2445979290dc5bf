-- Specification 9, "Survey file": blocks, their check, the header, kinds and unused words.
use Rattle.std.specs.Prelude.{ℕ, zero, suc, ◌+◌, ◌-◌, ◌*◌, ◌/◌, ◌%◌, ◌^◌, ◌≤◌, ◌<◌, ◌≡◌, cond, List, length, leb, eqb}
use Rattle.survey.specs.declared.stands.Stand.{Stand}
use Rattle.survey.specs.declared.stands.Stand.TheVariants.{Blocks}
use Rattle.survey.specs.Limits.{group_limit, link_limit, block_bytes, content_words, block_pairs}
use Rattle.survey.specs.Survey.{Survey}
use Rattle.survey.specs.Words.{word, survey_at}

-- 9.1: a file is made of blocks.
abbrev pub block_count : List ℕ → ℕ
block_count f = length f / block_bytes

-- 9.1: each block has 128 words. This is word w of block b.
abbrev pub block_word : List ℕ → ℕ → ℕ → ℕ
block_word f b w = word f (block_bytes * b + 4 * w)

-- 9.2: the check is two numbers, kept below 2^32 by leaving out higher bits.
pub record Sums : Type 0 where
  pub a : ℕ
  pub b : ℕ

-- 9.2: a starts as 1 and b as 0.
abbrev pub sums_begin : Sums
sums_begin = record { a = 1; b = 0 }

-- 9.2: a content word is added to a, and then a, as it has become, is added to b.
abbrev pub sums_after : Sums → ℕ → Sums
sums_after c x = record { a = (c.a + x) % 2 ^ 32; b = (c.b + (c.a + x) % 2 ^ 32) % 2 ^ 32 }

-- 9.2: both, after the first k of some words
unfoldable pub sums : (ℕ → ℕ) → ℕ → Sums
sums x zero = sums_begin
sums x (suc k) = sums_after (sums x k) (x k)

-- 9.2: after the last content word, word 126 has to equal a and word 127 has to equal b.
pub record CheckAgrees (f : List ℕ) (b : ℕ) : Type 0 where
  pub first : block_word f b content_words ≡ (sums (block_word f b) content_words).a
  pub second : block_word f b (content_words + 1) ≡ (sums (block_word f b) content_words).b

-- 9.3: a block says in content word 0 which number it has, and in content word 1 of which kind it is. Its number:
abbrev pub number_in : List ℕ → ℕ → ℕ
number_in f b = block_word f b 0

-- 9.3: its kind
abbrev pub kind_in : List ℕ → ℕ → ℕ
kind_in f b = block_word f b 1

-- 9.4: block 0 has n in word 2,
abbrev pub n_in : List ℕ → ℕ
n_in f = block_word f 0 2

-- 9.4: and e in word 3.
abbrev pub e_in : List ℕ → ℕ
e_in f = block_word f 0 3

-- 9.4: so many blocks hold k pairs. A new one is begun only when the one before is full, and without a pair there is none.
abbrev pub blocks_for : ℕ → ℕ
blocks_for k = (k + (block_pairs - 1)) / block_pairs

-- 9.4: first block 0, then all blocks of groups,
abbrev pub first_group_block : ℕ
first_group_block = 1

-- 9.4: then all blocks of links.
abbrev pub first_link_block : ℕ → ℕ
first_link_block n = first_group_block + blocks_for n

-- 9.4: the blocks of a survey, all together
abbrev pub blocks_needed : ℕ → ℕ → ℕ
blocks_needed n e = first_link_block n + blocks_for e

-- 9.7: no file has more bytes, which are those of 21 blocks.
abbrev pub file_limit : ℕ
file_limit = block_bytes * blocks_needed group_limit link_limit

-- 9.4: the kind that belongs to block b
abbrev pub kind_of : ℕ → ℕ → ℕ
kind_of n b = cond (eqb b 0) 1 (cond (leb (first_link_block n) b) 3 2)

-- 9.6: pairs stand from word 2 on. So many words of a block are in use where k pairs are left for it and those after it.
abbrev pub pair_words : ℕ → ℕ
pair_words k = 2 + 2 * k

-- 9.6: in block b the words from this one on have no use, in block 0 after n and e, elsewhere after the last pair. A block that
-- others of its kind follow is full, and more pairs are left for it and those after it than it has room for: there this passes 126, and no word of the block is unused, since
-- `UnusedAreZero` looks at the words from here up to 126 alone.
abbrev pub used_words : ℕ → ℕ → ℕ → ℕ
used_words n e b =
    cond (eqb b 0) 4
    (cond (leb (first_link_block n) b) (pair_words (e - block_pairs * (b - first_link_block n))) (pair_words (n - block_pairs * (b - first_group_block))))

-- 9.6: a content word without a use is 0.
pub record UnusedAreZero (f : List ℕ) (n e b : ℕ) : Type 0 where
  pub at : (w : ℕ) → used_words n e b ≤ w → w < content_words → block_word f b w ≡ 0

-- 9.5: the pairs of a kind, in its blocks from block first on
abbrev pub in_blocks : ℕ → Stand
in_blocks first = Blocks first

-- 9.4 and 8.5: the survey that a file holds
abbrev pub survey_in : List ℕ → Survey
survey_in f = survey_at (n_in f) (e_in f) f (in_blocks first_group_block) f (in_blocks (first_link_block (n_in f)))
