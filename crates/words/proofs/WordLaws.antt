-- Laws of numbers in bytes: first over the width, which is the number of bytes, then at the two widths in use, 4 and 8.
-- Assumes nothing.
use Prim.Native.Nat.{ℕ, zero, suc, ◌+◌, ◌-◌, ◌*◌, ◌/◌, ◌^◌, ◌≤◌, ◌<◌}
use mathlib.Core.Path.{◌≡◌, refl, sym, ap, ◌∙◌}
use mathlib.Core.Logic.{◌⊎◌, inl, inr}
use mathlib.Core.List.{List, [], ◌∷◌}
use native.Mathlib.Omega.{arith}
use native.Mathlib.Nat.{add-zero, add-suc, suc-add, pow-suc, div-div-eq-div-mul}
use native.Mathlib.Numerals.{add-one, add-two, add-three, add-four}
use mir.Syntax.{w8}
use mir.Val.{Fits}
use lib.ListN.{length, get_or, set, length-set}
use lib.Seq.{sets, length-sets, get_or-set_same, get_or-set_other}
use borrow.Rule.Slice.PartMut.{put_mid}
use Rattle.std.specs.Int.{w32, w64, bytes_low_first, to_le_bytes}
use Rattle.std.proofs.lemmas.Slice.{put_mid-paste}
use Rattle.std.proofs.lemmas.List.Edits.{paste_all, sets-eq}
use Rattle.std.proofs.Common.{append_assoc}
use Rattle.survey.specs.Words.{word, long_word}
use Rattle.words.specs.Words.{bytes_of, with_word, with_long_word, Bytes}

-- What a lent list of bytes tells of each, as a record.
pub bytes_of_lem : (l : List ℕ) → ((k : ℕ) → Fits w8 (get_or l k 0)) → Bytes l
bytes_of_lem l given = record { small = λ k. (given k).fits }

-- the bytes from a place on
abbrev pub bytes_at : ℕ → List ℕ → ℕ → List ℕ
bytes_at zero l i = []
bytes_at (suc width) l i = get_or l i 0 ∷ bytes_at width l (suc i)

-- the number that bytes give, low byte first
abbrev pub number : List ℕ → ℕ
number [] = 0
number (b ∷ bs) = b + 256 * number bs

number_below : (width : ℕ) {l : List ℕ} → Bytes l → (i : ℕ) → number (bytes_at width l i) < 256 ^ width
number_below zero b i = omega arith
number_below (suc width) b i = rw pow-suc (omega (arith, number_below width b (suc i), b.small i))

-- A number determines its bytes.
number_bytes :
    (width : ℕ) {l l' : List ℕ} → Bytes l → Bytes l' → (i j : ℕ) → number (bytes_at width l i) ≡ number (bytes_at width l' j)
    → (k : ℕ) → k < width → get_or l (i + k) 0 ≡ get_or l' (j + k) 0
number_bytes zero b b' i j e k h = absurd (omega arith)
number_bytes (suc width) b b' i j e zero h = simp add-zero (omega (arith, b.small i, b'.small j))
number_bytes (suc width) b b' i j e (suc k) h =
    rw (add-suc i k, add-suc j k, ← suc-add i k, ← suc-add j k)
    (number_bytes width b b' (suc i) (suc j) (omega (arith, b.small i, b'.small j)) k (omega arith))

-- The bytes of a number give it back.
number_of : (width x : ℕ) → x < 256 ^ width → number (bytes_of width x) ≡ x
number_of zero x h = omega arith
number_of (suc width) x h =
    let below : x < 256 ^ width * 256 = rw pow-suc at h in
    let high : number (bytes_of width (x / 256)) ≡ x / 256 = number_of width (x / 256) (omega arith) in
    omega arith

bytes_long : (width x : ℕ) → length (bytes_of width x) ≡ width
bytes_long zero x = refl
bytes_long (suc width) x = ap suc (bytes_long width (x / 256))

-- The library's bytes of a number are these.
low_first : (i width x : ℕ) → bytes_low_first i width x ≡ bytes_of width (x / 256 ^ i)
low_first i zero x = refl
low_first zero (suc width) x =
    let whole : x / 256 ^ 0 ≡ x = omega arith in
    let rest : x / 256 ^ 1 ≡ x / 256 = omega arith in
    rw (whole, low_first 1 width x, rest)
low_first (suc i) (suc width) x =
    let rest : x / 256 ^ suc (suc i) ≡ x / 256 ^ suc i / 256 = rw (pow-suc, ← div-div-eq-div-mul x (256 ^ suc i) 256) in
    cc (low_first (suc (suc i)) width x)

-- Bytes that are stored one after the other: outside of them nothing changes ..
sets_outside : (vs l : List ℕ) (i j : ℕ) → (j < i) ⊎ (i + length vs ≤ j) → get_or (sets l i vs) j 0 ≡ get_or l j 0
sets_outside [] l i j h = refl
sets_outside (v ∷ vs) l i j (inl h) =
    sets_outside vs (set l i v) (suc i) j (inl (omega arith)) ∙ get_or-set_other l i j v 0 (λ z. omega arith)
sets_outside (v ∷ vs) l i j (inr h) =
    sets_outside vs (set l i v) (suc i) j (inr (omega arith)) ∙ get_or-set_other l i j v 0 (λ z. omega arith)

bytes_at_outside :
    (width : ℕ) (vs l : List ℕ) (i j : ℕ) → (j + width ≤ i) ⊎ (i + length vs ≤ j) → bytes_at width (sets l i vs) j ≡ bytes_at width l j
bytes_at_outside zero vs l i j h = refl
bytes_at_outside (suc width) vs l i j (inl h) =
    cc (sets_outside vs l i j (inl (omega arith)), bytes_at_outside width vs l i (suc j) (inl (omega arith)))
bytes_at_outside (suc width) vs l i j (inr h) =
    cc (sets_outside vs l i j (inr h), bytes_at_outside width vs l i (suc j) (inr (omega arith)))

-- .. and there they stand.
sets_inside : (vs l : List ℕ) (i : ℕ) → i + length vs ≤ length l → bytes_at (length vs) (sets l i vs) i ≡ vs
sets_inside [] l i h = refl
sets_inside (v ∷ vs) l i h =
    cc (
      sets_outside vs (set l i v) (suc i) i (inl (omega arith)),
      get_or-set_same l i v 0 (omega arith),
      sets_inside vs (set l i v) (suc i) (simp length-set (omega arith)),
    )

word_number : (l : List ℕ) (i : ℕ) → word l i ≡ number (bytes_at 4 l i)
word_number l i = simp (add-one, add-two, add-three) (omega arith)

long_number : (l : List ℕ) (i : ℕ) → long_word l i ≡ number (bytes_at 8 l i)
long_number l i = simp (add-one, add-two, add-three, add-four) (omega arith)

-- A word of bytes is below 2^32, a long word below 2^64.
pub word_below : {l : List ℕ} → Bytes l → (i : ℕ) → word l i < 2 ^ 32
word_below {l} b i = rw (word_number l i) (number_below 4 b i)

pub long_word_below : {l : List ℕ} → Bytes l → (i : ℕ) → long_word l i < 2 ^ 64
long_word_below {l} b i = rw (long_number l i) (number_below 8 b i)

-- A word determines its four bytes, a long word its eight.
pub word_bytes :
    {l l' : List ℕ} → Bytes l → Bytes l' → (i j : ℕ) → word l i ≡ word l' j → (k : ℕ) → k < 4 → get_or l (i + k) 0 ≡ get_or l' (j + k) 0
word_bytes {l} {l'} b b' i j e = number_bytes 4 b b' i j (sym (word_number l i) ∙ e ∙ word_number l' j)

pub long_word_bytes :
    {l l' : List ℕ} → Bytes l → Bytes l' → (i j : ℕ) → long_word l i ≡ long_word l' j → (k : ℕ) → k < 8 → get_or l (i + k) 0 ≡ get_or l' (j + k) 0
long_word_bytes {l} {l'} b b' i j e = number_bytes 8 b b' i j (sym (long_number l i) ∙ e ∙ long_number l' j)

-- A long word determines its two words.
pub long_word_halves :
    {l l' : List ℕ} → Bytes l → Bytes l' → (i j : ℕ) → long_word l i ≡ long_word l' j
    → (word l i ≡ word l' j) × (word l (i + 4) ≡ word l' (j + 4))
long_word_halves b b' i j e = (omega (arith, word_below b i, word_below b' j), omega (arith, word_below b i, word_below b' j))

module _ (l : List ℕ) (i x : ℕ) where
  pub length_with_word : length (with_word l i x) ≡ length l
  unfolding with_word
  length_with_word = length-sets l i (bytes_of 4 x)

  pub length_with_long_word : length (with_long_word l i x) ≡ length l
  unfolding with_long_word
  length_with_long_word = length-sets l i (bytes_of 8 x)

  -- What is written is read back ..
  pub word_with : x < 2 ^ 32 → i + 4 ≤ length l → word (with_word l i x) i ≡ x
  unfolding with_word
  word_with small h = word_number (with_word l i x) i ∙ ap number (sets_inside (bytes_of 4 x) l i h) ∙ number_of 4 x small

  pub long_word_with : x < 2 ^ 64 → i + 8 ≤ length l → long_word (with_long_word l i x) i ≡ x
  unfolding with_long_word
  long_word_with small h = long_number (with_long_word l i x) i ∙ ap number (sets_inside (bytes_of 8 x) l i h) ∙ number_of 8 x small

  -- .. and no other byte changes.
  pub with_word_outside : (j : ℕ) → (j < i) ⊎ (i + 4 ≤ j) → get_or (with_word l i x) j 0 ≡ get_or l j 0
  unfolding with_word
  with_word_outside = sets_outside (bytes_of 4 x) l i

  pub with_long_word_outside : (j : ℕ) → (j < i) ⊎ (i + 8 ≤ j) → get_or (with_long_word l i x) j 0 ≡ get_or l j 0
  unfolding with_long_word
  with_long_word_outside = sets_outside (bytes_of 8 x) l i

  -- So no number elsewhere does.
  pub word_with_other : (j : ℕ) → (j + 4 ≤ i) ⊎ (i + 4 ≤ j) → word (with_word l i x) j ≡ word l j
  unfolding with_word
  word_with_other j h =
      word_number (with_word l i x) j ∙ ap number (bytes_at_outside 4 (bytes_of 4 x) l i j h) ∙ sym (word_number l j)

  pub long_word_with_other : (j : ℕ) → (j + 8 ≤ i) ⊎ (i + 8 ≤ j) → long_word (with_long_word l i x) j ≡ long_word l j
  unfolding with_long_word
  long_word_with_other j h =
      long_number (with_long_word l i x) j ∙ ap number (bytes_at_outside 8 (bytes_of 8 x) l i j h) ∙ sym (long_number l j)

-- The library's bytes of a number, written over a part of the list.
overwritten :
    (l : List ℕ) (width i x : ℕ) → i + width ≤ length l
    → sets l i (bytes_of width x) ≡ put_mid i (i + width - i) l (bytes_low_first 0 width x)
overwritten l width i x h =
    let same : bytes_low_first 0 width x ≡ bytes_of width x = low_first 0 width x ∙ ap (bytes_of width) (omega arith) in
    let long : length (bytes_of width x) ≡ width = bytes_long width x in
    sym
    (put_mid-paste i _ l _ (bytes_of width x) _ same (omega arith) refl
    ∙ paste_all l i (bytes_of width x) _ refl ∙ sym (simp append_assoc at (sets-eq (bytes_of width x) l i (omega arith))))

-- So this is what `put_word` leaves, and `put_long_word`.
pub word_written : (l : List ℕ) (i x : ℕ) → i + 4 ≤ length l → with_word l i x ≡ put_mid i (i + 4 - i) l (to_le_bytes w32 x)
unfolding with_word
word_written l = overwritten l 4

pub long_word_written : (l : List ℕ) (i x : ℕ) → i + 8 ≤ length l → with_long_word l i x ≡ put_mid i (i + 8 - i) l (to_le_bytes w64 x)
unfolding with_long_word
long_word_written l = overwritten l 8
