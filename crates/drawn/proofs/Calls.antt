-- Calls of chooser and checker that lend a drawing: its groups and links as bytes, and after them whatever stands there.
use Prim.Native.Nat.{ℕ, zero, suc, ◌+◌, ◌*◌, ◌≤◌, ◌<◌}
use native.Mathlib.Nat.{add-zero}
use native.Mathlib.Omega.{arith}
use mathlib.Core.Path.{◌≡◌, refl, sym, ap, ◌∙◌}
use mathlib.Core.Bool.{Bool, true, false, cond}
use mathlib.Core.Logic.{inl, inr}
use mathlib.Core.List.{List, [], ◌∷◌, ◌++◌}
use lib.Dec.{ltb}
use lib.ListN.{length, length-append, replicate, length-replicate, get_or, get_or-eq_default}
use borrow.Author.Tests.{ltb-true, ltb-false}
use Rattle.survey.specs.Survey.{Survey, Group, Link}
use Rattle.survey.specs.Words.{lent, stands_at, group_at, link_at, up_to, survey_at, survey_of, word}
use Rattle.survey.specs.Refusals.{Clear}
use Rattle.survey.specs.Faults.{OneShort, too_short, call_lists}
use Rattle.survey.specs.Drawings.{counts, link, drawn}

-- Two numbers that fit a byte, as a pair of words, low byte first.
abbrev pub pair : ℕ → ℕ → List ℕ → List ℕ
pair a b rest = a ∷ 0 ∷ 0 ∷ 0 ∷ b ∷ 0 ∷ 0 ∷ 0 ∷ rest

-- a number that fits a byte, as a word
low_byte : (x : ℕ) → x + 256 * 0 + 65_536 * 0 + 16_777_216 * 0 ≡ x
low_byte x = omega arith

-- the words of entry k + 1 are those of entry k past the first 8 bytes
word_next : (a b : ℕ) (rest : List ℕ) (k j : ℕ) → word (pair a b rest) (stands_at lent (suc k) + j) ≡ word rest (stands_at lent k + j)
word_next a b rest k j = omega (arith, simp add-zero at (byte 0), byte 1, byte 2, byte 3)
  where
    byte : (m : ℕ) → get_or (pair a b rest) (stands_at lent (suc k) + j + m) 0 ≡ get_or rest (stands_at lent k + j + m) 0
    byte m =
        let place : stands_at lent (suc k) + j + m ≡ suc (suc (suc (suc (suc (suc (suc (suc (stands_at lent k + j + m)))))))) = omega arith in
        ap (λ (x : ℕ). get_or (pair a b rest) x 0) place

-- A list of things that are two such numbers each.
module _ {A : Type 0} (low high : A → ℕ) where
  abbrev pub bytes_of : List A → List ℕ
  bytes_of [] = []
  bytes_of (x ∷ xs) = pair (low x) (high x) (bytes_of xs)

  low_word : (d : A) (xs : List A) (tail : List ℕ) (k : ℕ) → k < length xs → word (bytes_of xs ++ tail) (stands_at lent k) ≡ low (get_or xs k d)
  low_word d [] tail k h = absurd (omega arith)
  low_word d (x ∷ xs) tail zero h = low_byte (low x)
  low_word d (x ∷ xs) tail (suc k) h = simp add-zero at (word_next (low x) (high x) (bytes_of xs ++ tail) k 0) ∙ low_word d xs tail k (omega arith)

  high_word : (d : A) (xs : List A) (tail : List ℕ) (k : ℕ) → k < length xs → word (bytes_of xs ++ tail) (stands_at lent k + 4) ≡ high (get_or xs k d)
  high_word d [] tail k h = absurd (omega arith)
  high_word d (x ∷ xs) tail zero h = low_byte (high x)
  high_word d (x ∷ xs) tail (suc k) h = word_next (low x) (high x) (bytes_of xs ++ tail) k 4 ∙ high_word d xs tail k (omega arith)

abbrev pub group_bytes : List Group → List ℕ
group_bytes gs = bytes_of (λ (g : Group). g.dead) (λ (g : Group). g.live) gs

abbrev pub link_bytes : List Link → List ℕ
link_bytes ls = bytes_of (λ (l : Link). l.from) (λ (l : Link). l.to) ls

-- cut off at its end, a list has at each place what stands there, and z past it
pub cut_off : {A : Type 0} (xs : List A) (z : A) (f : ℕ → A) → ((k : ℕ) → k < length xs → f k ≡ get_or xs k z) → (k : ℕ) → up_to (length xs) z f k ≡ get_or xs k z
cut_off {A} xs z f h k = at (ltb k (length xs)) refl
  where
    at : (t : Bool) → ltb k (length xs) ≡ t → cond t (f k) z ≡ get_or xs k z
    at true e = h k (ltb-true k (length xs) e)
    at false e = sym (get_or-eq_default xs z {n = k} (omega (arith, ltb-false k (length xs) e)))

-- Lists that begin with a drawing's bytes give the drawing, whatever stands after them.
pub lent_drawing :
    (gs : List Group) (ls : List Link) (groupTail linkTail : List ℕ)
    → survey_of (length gs) (length ls) (group_bytes gs ++ groupTail) (link_bytes ls ++ linkTail) ≡ drawn gs ls
unfolding survey_at
lent_drawing gs ls groupTail linkTail =
    λ i. record {
      n = length gs;
      e = length ls;
      group = λ g. cut_off gs (counts 0 0) (group_at (group_bytes gs ++ groupTail) lent) (λ k h. group k h) g i;
      link = λ k. cut_off ls (link 0 0) (link_at (link_bytes ls ++ linkTail) lent) (λ k h. ends k h) k i;
    }
  where
    group : (k : ℕ) → k < length gs → group_at (group_bytes gs ++ groupTail) lent k ≡ get_or gs k (counts 0 0)
    group k h =
        λ i. record {
          dead = low_word (λ (g : Group). g.dead) (λ (g : Group). g.live) (counts 0 0) gs groupTail k h i;
          live = high_word (λ (g : Group). g.dead) (λ (g : Group). g.live) (counts 0 0) gs groupTail k h i;
        }

    ends : (k : ℕ) → k < length ls → link_at (link_bytes ls ++ linkTail) lent k ≡ get_or ls k (link 0 0)
    ends k h =
        λ i. record {
          from = low_word (λ (l : Link). l.from) (λ (l : Link). l.to) (link 0 0) ls linkTail k h i;
          to = high_word (λ (l : Link). l.from) (λ (l : Link). l.to) (link 0 0) ls linkTail k h i;
        }

-- ---- a call

-- A call of chooser or checker that lends the survey s, in lists that are long enough.
pub record Lends (s : Survey) (groups links marks amounts : List ℕ) : Type 0 where
  pub survey : survey_of s.n s.e groups links ≡ s
  pub long : Clear (too_short (call_lists groups links marks amounts))

-- Lists that begin with a drawing's bytes lend the drawing, with any bytes after them, if only no list is too short: 128 groups and marks,
-- 1,024 links and amounts, 8 bytes each but for the marks.
module _ (gs : List Group) (ls : List Link) (groupTail linkTail marks amounts : List ℕ) where
  pub bytes_lend :
      1_024 ≤ length groupTail → 8_192 ≤ length linkTail → 128 ≤ length marks → 8_192 ≤ length amounts
      → Lends (drawn gs ls) (group_bytes gs ++ groupTail) (link_bytes ls ++ linkTail) marks amounts
  unfolding OneShort
  bytes_lend g l m a = record { survey = lent_drawing gs ls groupTail linkTail; long = record { none = λ k h x. short x } }
    where
      short : OneShort (call_lists (group_bytes gs ++ groupTail) (link_bytes ls ++ linkTail) marks amounts) → ⊥
      short (inl x) = omega (arith, length-append (group_bytes gs) groupTail)
      short (inr (inl x)) = omega (arith, length-append (link_bytes ls) linkTail)
      short (inr (inr (inl x))) = omega arith
      short (inr (inr (inr (inl x)))) = omega arith
      short (inr (inr (inr (inr x)))) = x

-- There are such calls, with zeros for all that is left open, for any drawing and any marks and amounts to begin with.
abbrev pub zeros : ℕ → List ℕ
zeros k = replicate k 0

pub some_call :
    (gs : List Group) (ls : List Link) (marks amounts : List ℕ)
    → Lends (drawn gs ls) (group_bytes gs ++ zeros 1_024) (link_bytes ls ++ zeros 8_192) (marks ++ zeros 128) (amounts ++ zeros 8_192)
some_call gs ls marks amounts =
    bytes_lend gs ls (zeros 1_024) (zeros 8_192) (marks ++ zeros 128) (amounts ++ zeros 8_192) (long 1_024) (long 8_192) (after marks 128) (after amounts 8_192)
  where
    long : (k : ℕ) → k ≤ length (zeros k)
    long k = omega (arith, length-replicate {A = ℕ} k 0)

    after : (l : List ℕ) (k : ℕ) → k ≤ length (l ++ zeros k)
    after l k = omega (arith, length-append l (zeros k), long k)
