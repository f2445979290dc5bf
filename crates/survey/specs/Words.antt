-- Specification 8, "Numbers in bytes": words, entries and where they stand, surveys and claims given as lists.
use Rattle.std.specs.Prelude.{ℕ, ◌+◌, ◌*◌, ◌/◌, ◌%◌, cond, List, length, get_or, ltb, eqb}
use Rattle.survey.specs.declared.stands.Stand.{Stand}
use Rattle.survey.specs.declared.stands.Stand.TheVariants.{Lent, Blocks}
use Rattle.survey.specs.Limits.{entry_bytes, block_bytes, block_pairs}
use Rattle.survey.specs.Survey.{Group, Link, Survey}
use Rattle.survey.specs.Sets.{Set}
use Rattle.survey.specs.Balance.{Amounts}

-- 8.1: the word whose four bytes, the lowest first, begin at place i
abbrev pub word : List ℕ → ℕ → ℕ
word l i = get_or l i 0 + 256 * get_or l (i + 1) 0 + 65_536 * get_or l (i + 2) 0 + 16_777_216 * get_or l (i + 3) 0

-- 8.1: the long word whose eight bytes, the lowest first, begin at place i: its low word and then its high word
abbrev pub long_word : List ℕ → ℕ → ℕ
long_word l i = word l i + 4_294_967_296 * word l (i + 4)

-- 8.3: the pairs of a file stand in its blocks, 62 to a block, from word 2 of each on. Of the blocks from block first on, pair k stands in this one ..
abbrev pub block_of_pair : ℕ → ℕ → ℕ
block_of_pair first k = first + k / block_pairs

-- 8.3: .. and in it this is the first of its two words.
abbrev pub word_of_pair : ℕ → ℕ
word_of_pair k = 2 + 2 * (k % block_pairs)

-- 8.3: the byte that entry k begins at. In a lent list entries stand one after the other; in a file they stand as above, and a word is 4 bytes. Word w of
-- block b is defined in `SurveyFile`; that a pair's words are two of these is said in proofs/Standing, and so is the same place by a base and a gap.
abbrev pub stands_at : Stand → ℕ → ℕ
stands_at Lent k = entry_bytes * k
stands_at (Blocks first) k = block_bytes * block_of_pair first k + 4 * word_of_pair k

-- 8.3: in a lent list, one after the other
abbrev pub lent : Stand
lent = Lent

-- 8.4: the length of a list is how many entries it has whole.
abbrev pub entries : List ℕ → ℕ
entries l = length l / entry_bytes

-- 8.2: a group, its dead count and then its live count
abbrev pub group_at : List ℕ → Stand → ℕ → Group
group_at l w k = record { dead = word l (stands_at w k); live = word l (stands_at w k + 4) }

-- 8.2: a link, its from and then its to
abbrev pub link_at : List ℕ → Stand → ℕ → Link
link_at l w k = record { from = word l (stands_at w k); to = word l (stands_at w k + 4) }

-- 8.5: f up to place n, and z from there on
abbrev pub up_to {ℓ} : {A : Type ℓ} → ℕ → A → (ℕ → A) → ℕ → A
up_to n z f k = cond (ltb k n) (f k) z

-- 8.5: n, e and two lists give a survey, the first n entries of the one and the first e of the other. What stands after them is no part of it.
unfoldable pub survey_at : ℕ → ℕ → List ℕ → Stand → List ℕ → Stand → Survey
survey_at n e g wg l wl =
    record {
      n = n;
      e = e;
      group = up_to n (record { dead = 0; live = 0 }) (group_at g wg);
      link = up_to e (record { from = 0; to = 0 }) (link_at l wl);
    }

-- 8.5: a survey given as lent lists
abbrev pub survey_of : ℕ → ℕ → List ℕ → List ℕ → Survey
survey_of n e g l = survey_at n e g lent l lent

-- 8.6: the marked set has those groups whose mark is 1.
abbrev pub marked_set : List ℕ → Set
marked_set m g = eqb (get_or m g 0) 1

-- 8.6: the amount of link k is entry k of its list.
abbrev pub amounts_of : List ℕ → Amounts
amounts_of a k = long_word a (stands_at lent k)
