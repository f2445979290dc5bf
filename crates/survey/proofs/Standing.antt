-- Where the pairs of a file stand: by their words, by base and gap, and where a block ends and the next begins.
-- Assumes nothing.
use Prim.Native.Nat.{ℕ, ◌+◌, ◌-◌, ◌*◌, ◌/◌, ◌<◌}
use mathlib.Core.Path.{◌≡◌, refl, ap}
use mathlib.Core.List.{List}
use native.Mathlib.Omega.{arith}
use Rattle.survey.specs.Limits.{block_bytes, content_words, block_pairs, entry_bytes}
use Rattle.survey.specs.Words.{word, block_of_pair, word_of_pair, stands_at}
use Rattle.survey.specs.SurveyFile.{block_word, n_in, e_in, first_group_block, first_link_block, in_blocks, survey_in}
use Rattle.survey.proofs.GivenSurvey.{given_group}

-- A pair's two words are the word of its block that it begins at, and the next; both are content.
pub first_word : (f : List ℕ) (first k : ℕ) → word f (stands_at (in_blocks first) k) ≡ block_word f (block_of_pair first k) (word_of_pair k)
first_word f first k = refl

pub second_word : (f : List ℕ) (first k : ℕ) → word f (stands_at (in_blocks first) k + 4) ≡ block_word f (block_of_pair first k) (word_of_pair k + 1)
second_word f first k = ap (word f) (omega arith)

pub words_content : (k : ℕ) → word_of_pair k + 1 < content_words
words_content k = omega arith

-- In bytes: the pairs of a block stand one after the other, and those of the next block begin a gap further on. So a base, 8 bytes for each pair before this
-- one, and a gap for each block before its own.
pub by_base_and_gap :
    (first k : ℕ) → stands_at (in_blocks first) k ≡ (block_bytes * first + entry_bytes) + entry_bytes * k + (block_bytes - entry_bytes * block_pairs) * (k / block_pairs)
by_base_and_gap first k = omega arith

-- The last pair of a block and the first of the next, and one further on. Groups begin in block 1.
pub pair_61 : (block_of_pair 1 61 ≡ 1) × (word_of_pair 61 ≡ 124)
pair_61 = (refl, refl)

pub pair_62 : (block_of_pair 1 62 ≡ 2) × (word_of_pair 62 ≡ 2)
pair_62 = (refl, refl)

pub pair_130 : (block_of_pair 1 130 ≡ 3) × (word_of_pair 130 ≡ 14)
pair_130 = (refl, refl)

-- In a file of more than 62 groups, group 62 is words 2 and 3 of block 2.
pub group_62 : (f : List ℕ) → 62 < n_in f → (survey_in f).group 62 ≡ record { dead = block_word f 2 2; live = block_word f 2 3 }
group_62 f h = given_group (n_in f) (e_in f) f (in_blocks first_group_block) f (in_blocks (first_link_block (n_in f))) 62 h
