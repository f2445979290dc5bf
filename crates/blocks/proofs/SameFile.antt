-- An admitted file is told, byte for byte, by the survey in it: every word of a block is its number, its kind, n, e, a word of a pair, an unused
-- 0, or a check word, which the others determine; and a word determines its four bytes.
-- Assumes nothing.
use Prim.Native.Nat.{ℕ, zero, suc, ◌+◌, ◌-◌, ◌*◌, ◌/◌, ◌%◌, ◌≤◌, ◌<◌}
use mathlib.Core.Path.{◌≡◌, sym, ap, subst, ◌∙◌}
use mathlib.Core.List.{List}
use native.Mathlib.Decide.{dec_lt}
use native.Mathlib.Omega.{arith}
use lib.ListN.{get_or}
use lib.Seq.{ext_get_or}
use Rattle.survey.specs.Limits.{block_bytes, content_words, block_pairs}
use Rattle.survey.specs.Survey.{Survey, Group, Link}
use Rattle.survey.specs.Words.{word, stands_at, group_at, link_at}
use Rattle.survey.specs.SurveyFile.{Sums, block_word, sums, n_in, e_in, first_group_block, first_link_block, blocks_needed, pair_words, used_words, in_blocks, survey_in}
use Rattle.survey.specs.Faults.{AdmittedFile}
use Rattle.survey.proofs.GivenSurvey.{given_n, given_e, given_group, given_link}
use Rattle.words.specs.Words.{Bytes}
use Rattle.words.proofs.WordLaws.{word_bytes}
use Rattle.views.proofs.SumLaws.{sums_same}
use Rattle.layout.proofs.KindLaws.{BlockSort, header, groups, links, sort_of}
use Rattle.blocks.proofs.LaidOut.{Layout, admitted_layout}

-- the pairs that stand in the blocks from block first on are the same in two files
pub record SamePairs (f f' : List ℕ) (first count : ℕ) : Type 0 where
  pub low : (k : ℕ) → k < count → word f (stands_at (in_blocks first) k) ≡ word f' (stands_at (in_blocks first) k)
  pub high : (k : ℕ) → k < count → word f (stands_at (in_blocks first) k + 4) ≡ word f' (stands_at (in_blocks first) k + 4)

-- Word w of block b, from word 2 on, is the low or the high word of a pair.
module _ {f f' : List ℕ} {first count : ℕ} (same : SamePairs f f' first count) where
  same_pair_word : (b w : ℕ) → first ≤ b → 2 ≤ w → w < pair_words (count - block_pairs * (b - first)) → w < content_words → block_word f b w ≡ block_word f' b w
  same_pair_word b w h l m c = go (b - first) ((w - 2) / 2) ((w - 2) % 2) (omega arith) (omega arith) (omega arith) (omega arith) (omega arith)
    where
      -- block first + a, pair j of it, word r of the pair
      go : (a j r : ℕ) → b ≡ first + a → w ≡ 2 + 2 * j + r → r < 2 → j < block_pairs → block_pairs * a + j < count → block_word f b w ≡ block_word f' b w
      go a j zero p q s t u =
          let turn : (block_pairs * a + j) / block_pairs ≡ a = omega arith in
          let place : block_bytes * b + 4 * w ≡ stands_at (in_blocks first) (block_pairs * a + j) = omega arith in
          ap (word f) place ∙ same.low (block_pairs * a + j) u ∙ sym (ap (word f') place)
      go a j (suc zero) p q s t u =
          let turn : (block_pairs * a + j) / block_pairs ≡ a = omega arith in
          let place : block_bytes * b + 4 * w ≡ stands_at (in_blocks first) (block_pairs * a + j) + 4 = omega arith in
          ap (word f) place ∙ same.high (block_pairs * a + j) u ∙ sym (ap (word f') place)
      go a j (suc (suc r)) p q s t u = absurd (omega arith)

-- Every word of a block is the same in two files of n groups and e links whose groups and links are the same.
module _ {f f' : List ℕ} {n e : ℕ} (l : Layout f n e) (l' : Layout f' n e) (pairs : SamePairs f f' first_group_block n) (ends : SamePairs f f' (first_link_block n) e) where
  -- an unused word, or one that the two files share where it is used
  used_or_zero : (b w : ℕ) → b < blocks_needed n e → w < content_words → (w < used_words n e b → block_word f b w ≡ block_word f' b w) → block_word f b w ≡ block_word f' b w
  used_or_zero b w m c used = go (dec_lt w (used_words n e b))
    where
      go : Dec (w < used_words n e b) → block_word f b w ≡ block_word f' b w
      go (yes u) = used u
      go (no d) = (l.zeros b m).at w (omega arith) c ∙ sym ((l'.zeros b m).at w (omega arith) c)

  content_word : (b w : ℕ) → b < blocks_needed n e → w < content_words → block_word f b w ≡ block_word f' b w
  content_word b zero m c = l.numbers b m ∙ sym (l'.numbers b m)
  content_word b (suc zero) m c = l.kinds b m ∙ sym (l'.kinds b m)
  content_word b (suc (suc w)) m c = used_or_zero b (suc (suc w)) m c (go (sort_of n e b))
    where
      headed : (v : ℕ) → v < 2 → block_word f 0 (suc (suc v)) ≡ block_word f' 0 (suc (suc v))
      headed zero h = l.groups ∙ sym l'.groups
      headed (suc zero) h = l.links ∙ sym l'.links
      headed (suc (suc v)) h = absurd (omega arith)

      go : BlockSort n e b → suc (suc w) < used_words n e b → block_word f b (suc (suc w)) ≡ block_word f' b (suc (suc w))
      go (header z one u) h = subst (λ (x : ℕ). block_word f x (suc (suc w)) ≡ block_word f' x (suc (suc w))) (sym z) (headed w (omega arith))
      go (groups p q two u) h = same_pair_word pairs b (suc (suc w)) (omega arith) (omega arith) (omega arith) c
      go (links p three u) h = same_pair_word ends b (suc (suc w)) p (omega arith) (omega arith) c

  -- the check words, which the others determine
  same_sums : (b : ℕ) → b < blocks_needed n e → sums (block_word f b) content_words ≡ sums (block_word f' b) content_words
  same_sums b m = sums_same (block_word f b) (block_word f' b) content_words (λ w c. content_word b w m c)

  every_word : (b w : ℕ) → b < blocks_needed n e → w < content_words + 2 → block_word f b w ≡ block_word f' b w
  every_word b w m c = go (dec_lt w content_words) (dec_lt w (content_words + 1))
    where
      at : {v : ℕ} → w ≡ v → block_word f b v ≡ block_word f' b v → block_word f b w ≡ block_word f' b w
      at p q = subst (λ (x : ℕ). block_word f b x ≡ block_word f' b x) (sym p) q

      go : Dec (w < content_words) → Dec (w < content_words + 1) → block_word f b w ≡ block_word f' b w
      go (yes h) d = content_word b w m h
      go (no h) (yes d) = at {v = content_words} (omega arith) ((l.checks b m).first ∙ ap (λ (s : Sums). s.a) (same_sums b m) ∙ sym (l'.checks b m).first)
      go (no h) (no d) = at {v = content_words + 1} (omega arith) ((l.checks b m).second ∙ ap (λ (s : Sums). s.b) (same_sums b m) ∙ sym (l'.checks b m).second)

  pub same_layout : Bytes f → Bytes f' → f ≡ f'
  same_layout small small' = ext_get_or 0 f f' (l.long ∙ sym l'.long)
      (λ i h. byte (i / block_bytes) (i % block_bytes / 4) (i % 4) i (omega arith) (omega (arith, l.long)) (omega arith) (omega arith))
    where
      byte : (b w k i : ℕ) → i ≡ block_bytes * b + 4 * w + k → b < blocks_needed n e → w < content_words + 2 → k < 4 → get_or f i 0 ≡ get_or f' i 0
      byte b w k i p m c h =
          subst (λ (x : ℕ). get_or f x 0 ≡ get_or f' x 0) (sym p) (word_bytes small small' (block_bytes * b + 4 * w) (block_bytes * b + 4 * w) (every_word b w m c) k h)

-- The theorem: what an admitted file says, its survey, determines its bytes.
pub same_file : {f f' : List ℕ} → Bytes f → Bytes f' → AdmittedFile f → AdmittedFile f' → survey_in f ≡ survey_in f' → f ≡ f'
same_file {f} {f'} small small' a a' same = same_layout (admitted_layout a) laid pairs ends small small'
  where
    n_same : n_in f ≡ n_in f'
    n_same = sym (given_n (n_in f) (e_in f) f (in_blocks first_group_block) f (in_blocks (first_link_block (n_in f)))) ∙ ap (λ (s : Survey). s.n) same ∙ given_n (n_in f')
        (e_in f') f' (in_blocks first_group_block) f' (in_blocks (first_link_block (n_in f')))

    e_same : e_in f ≡ e_in f'
    e_same = sym (given_e (n_in f) (e_in f) f (in_blocks first_group_block) f (in_blocks (first_link_block (n_in f)))) ∙ ap (λ (s : Survey). s.e) same ∙ given_e (n_in f')
        (e_in f') f' (in_blocks first_group_block) f' (in_blocks (first_link_block (n_in f')))

    laid : Layout f' (n_in f) (e_in f)
    laid = subst (λ (n : ℕ). Layout f' n (e_in f)) (sym n_same) (subst (λ (e : ℕ). Layout f' (n_in f') e) (sym e_same) (admitted_layout a'))

    group_same : (k : ℕ) → k < n_in f → group_at f (in_blocks first_group_block) k ≡ group_at f' (in_blocks first_group_block) k
    group_same k h =
        sym (given_group (n_in f) (e_in f) f (in_blocks first_group_block) f (in_blocks (first_link_block (n_in f))) k h) ∙ ap (λ (s : Survey). s.group k) same
        ∙ given_group (n_in f') (e_in f') f' (in_blocks first_group_block) f' (in_blocks (first_link_block (n_in f'))) k (subst (λ (x : ℕ). k < x) n_same h)

    link_same : (k : ℕ) → k < e_in f → link_at f (in_blocks (first_link_block (n_in f))) k ≡ link_at f' (in_blocks (first_link_block (n_in f))) k
    link_same k h =
        sym (given_link (n_in f) (e_in f) f (in_blocks first_group_block) f (in_blocks (first_link_block (n_in f))) k h) ∙ ap (λ (s : Survey). s.link k) same
        ∙ given_link (n_in f') (e_in f') f' (in_blocks first_group_block) f' (in_blocks (first_link_block (n_in f'))) k (subst (λ (x : ℕ). k < x) e_same h)
        ∙ ap (λ (n : ℕ). link_at f' (in_blocks (first_link_block n)) k) (sym n_same)

    pairs : SamePairs f f' first_group_block (n_in f)
    pairs = record { low = λ k h. ap (λ (g : Group). g.dead) (group_same k h); high = λ k h. ap (λ (g : Group). g.live) (group_same k h) }

    ends : SamePairs f f' (first_link_block (n_in f)) (e_in f)
    ends = record { low = λ k h. ap (λ (g : Link). g.from) (link_same k h); high = λ k h. ap (λ (g : Link). g.to) (link_same k h) }
