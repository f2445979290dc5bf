-- Laws of copied entries: what one long word, read and written, does to the bytes, and how a list is filled entry by entry.
-- Assumes nothing.
use Prim.Native.Nat.{ℕ, zero, suc, ◌+◌, ◌*◌, ◌/◌, ◌%◌, ◌≤◌, ◌<◌}
use mathlib.Core.Path.{◌≡◌, refl, sym, ap, ap₂, subst, ◌∙◌}
use mathlib.Core.Logic.{inl, inr}
use mathlib.Core.List.{List, ◌∷◌, ◌++◌}
use native.Mathlib.Decide.{dec_lt}
use native.Mathlib.Omega.{arith}
use native.Mathlib.Nat.{add-zero, add-suc, suc-add}
use native.Mathlib.Numerals.{add-one, add-two, add-three, add-four}
use lib.ListN.{length, get_or, take, drop, length-append, get_or-append}
use lib.Seq.{sets, sets-eq, length-take-le, get_or-append-add}
use Rattle.survey.specs.declared.stands.Stand.{Stand}
use Rattle.survey.specs.Limits.{entry_bytes}
use Rattle.survey.specs.Words.{long_word, stands_at}
use Rattle.survey.specs.Promises.{Filled}
use Rattle.words.specs.Words.{bytes_of, with_long_word, Bytes}
use Rattle.words.proofs.WordLaws.{bytes_at, number, length_with_long_word, with_long_word_outside}
use Rattle.entries.specs.declared.Pair.{Pair}
use Rattle.entries.specs.Entries.{PairIs}
use Rattle.copies.specs.Copies.{both_words, Copied}

-- The bytes of the number that some bytes give are those bytes.
number_again : (width : ℕ) {l : List ℕ} → Bytes l → (i : ℕ) → bytes_of width (number (bytes_at width l i)) ≡ bytes_at width l i
number_again zero b i = refl
number_again (suc width) {l} b i = ap₂ (λ (x : ℕ) (xs : List ℕ). x ∷ xs) (omega (arith, b.small i)) (ap (bytes_of width) (omega (arith, b.small i)) ∙ number_again width b (suc i))

bytes_at_lem : (width : ℕ) (l : List ℕ) (i k : ℕ) → k < width → get_or (bytes_at width l i) k 0 ≡ get_or l (i + k) 0
bytes_at_lem zero l i k h = absurd (omega arith)
bytes_at_lem (suc width) l i zero h = rw add-zero
bytes_at_lem (suc width) l i (suc k) h = bytes_at_lem width l (suc i) k (omega arith) ∙ rw (add-suc i k, suc-add i k)

length_bytes : (width x : ℕ) → length (bytes_of width x) ≡ width
length_bytes zero x = refl
length_bytes (suc width) x = ap suc (length_bytes width (x / 256))

-- What is stored one after the other stands there.
sets_at : (l vs : List ℕ) (i k : ℕ) → i + length vs ≤ length l → k < length vs → get_or (sets l i vs) (i + k) 0 ≡ get_or vs k 0
sets_at l vs i k h m =
    let start : length (take i l) ≡ i = length-take-le i l (omega arith) in
    ap (λ (x : List ℕ). get_or x (i + k) 0) (sets-eq vs l i h)
    ∙ get_or-append (take i l ++ vs) (drop (i + length vs) l) 0 (i + k) (rw (length-append (take i l) vs) (omega arith))
    ∙ ap (λ (n : ℕ). get_or (take i l ++ vs) (n + k) 0) (sym start)
    ∙ get_or-append-add (take i l) vs k 0

long_number : (l : List ℕ) (i : ℕ) → long_word l i ≡ number (bytes_at 8 l i)
long_number l i = simp (add-one, add-two, add-three, add-four) (omega arith)

-- The long word at j, written at i: that copies the entry.
written : {l f : List ℕ} (i j : ℕ) → Bytes f → i + entry_bytes ≤ length l → Copied l (with_long_word l i (long_word f j)) i f j
unfolding with_long_word
written {l} {f} i j b h =
    record {
      long = length_with_long_word l i (long_word f j);
      inside = λ k m. sets_at l (bytes_of 8 (long_word f j)) i k (rw (length_bytes 8 (long_word f j)) h) (rw (length_bytes 8 (long_word f j)) m) ∙ ap
          (λ (xs : List ℕ). get_or xs k 0) (ap (bytes_of 8) (long_number f j) ∙ number_again 8 b j) ∙ bytes_at_lem 8 f j k m;
      outside = with_long_word_outside l i (long_word f j);
    }

-- A pair of a file that is put into a list is copied.
pub copied :
    {l after f : List ℕ} {w : Stand} {k i : ℕ} {p : Pair} → Bytes f → i + entry_bytes ≤ length l → PairIs p f w k → after ≡ with_long_word l i (both_words p)
    → Copied l after i f (stands_at w k)
copied {l} {f = f} {w = w} {k = k} {i = i} b h is put =
    subst (λ (z : List ℕ). Copied l z i f (stands_at w k)) (sym (put ∙ ap (with_long_word l i) (omega (arith, is.first, is.second)))) (written i (stands_at w k) b h)

-- A list is filled entry by entry.
module _ {before : List ℕ} {f : List ℕ} {w : Stand} where
  pub filled_none : Filled before before 0 f w
  filled_none = record { long = refl; first = λ i l. absurd (omega arith); rest = λ i l. refl }

  pub filled_more : {after next : List ℕ} {k : ℕ} → Filled before after k f w → Copied after next (entry_bytes * k) f (stands_at w k) → Filled before next (k + 1) f w
  filled_more {after} {next} {k} p c =
      record {
        long = c.long ∙ p.long;
        first = λ i l. at i l (dec_lt i (entry_bytes * k));
        rest = λ i l. c.outside i (inr (omega arith)) ∙ p.rest i (omega arith);
      }
    where
      at : (i : ℕ) → i < entry_bytes * (k + 1) → Dec (i < entry_bytes * k) → get_or next i 0 ≡ get_or f (stands_at w (i / entry_bytes) + i % entry_bytes) 0
      at i l (yes m) = c.outside i (inl m) ∙ p.first i m
      at i l (no d) =
          let here : i ≡ entry_bytes * k + i % entry_bytes = omega arith in
          let turn : i / entry_bytes ≡ k = omega arith in
          ap (λ (x : ℕ). get_or next x 0) here ∙ c.inside (i % entry_bytes) (omega arith) ∙ ap (λ (x : ℕ). get_or f (stands_at w x + i % entry_bytes) 0) (sym turn)
