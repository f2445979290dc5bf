-- Laws of digits and rows. A digit of a word that two words make is what their two digits make; the rest is cases on 0 and 1.
-- Assumes nothing.
use Prim.Native.Nat.{ℕ, zero, suc, ◌+◌, ◌-◌, ◌*◌, ◌/◌, ◌%◌, ◌^◌, ◌≤◌, ◌<◌, min, max}
use mathlib.Core.Path.{◌≡◌, refl, sym, ap, ap₂, ◌∙◌}
use mathlib.Core.List.{List}
use native.Mathlib.Decide.{ℕ_discrete, dec_lt}
use native.Mathlib.Omega.{arith}
use native.Mathlib.Nat.{mod-lt, min-zero, one-mul, add-zero, zero-div, div-one, div-eq_of_lt, mul-mod_left, pow-suc}
use native.Mathlib.Numerals.{one-add}
use lib.Arith.{digits_mod}
use lib.Pow.{shl_exact, pow_pos, pow-lt, pow-add, split, shl-shr, shr-shr}
use lib.Bits.{bit_and, bit_or, bit_xor, differ, and_step, or_step, xor_step, and_shr, or_shr, xor_shr}
use lib.Bits.{or_lt, xor_lt, and_block, and_mask, and_zero_r, or_add_and, xor_add_and}
use lib.Count.{count_trailing_zeros, under}
use lib.ListN.{length, get_or, set, length-set, replicate, get_or-replicate}
use lib.Seq.{get_or-set_same, get_or-set_other, set_out}
use Rattle.std.specs.Int.{w64}
use Rattle.std.proofs.lemmas.Nat.{and_le_l}
use Rattle.std.proofs.lemmas.Nat.Bits.{bit_at_clear_same, bit_at_clear_other}
use Rattle.bits.specs.Bits.{digit, bit, with, without, put_bit, cut_bit}

-- ---- digits

-- A digit is 0 or 1.
pub digit_bound : (w i : ℕ) → digit w i ≤ 1
unfolding digit
digit_bound w i = omega arith

pub zero_digit : (i : ℕ) → digit 0 i ≡ 0
unfolding digit
zero_digit i = ap (λ (x : ℕ). x % 2) (zero-div (2 ^ i))

-- The next digit is the half's.
half_digit : (w i : ℕ) → digit w (suc i) ≡ digit (w / 2) i
unfolding digit
half_digit w i = ap (λ (x : ℕ). w / 2 ^ x % 2) (sym (one-add i)) ∙ ap (λ (x : ℕ). x % 2) (sym (shr-shr w 1 i))

-- An operation that goes digit by digit.
module _ (op f : ℕ → ℕ → ℕ) (shr : (a b k : ℕ) → op a b / 2 ^ k ≡ op (a / 2 ^ k) (b / 2 ^ k))
    (step : (a b : ℕ) → op a b ≡ op (a / 2) (b / 2) * 2 + f (a % 2) (b % 2)) (small : (x y : ℕ) → x ≤ 1 → y ≤ 1 → f x y < 2) where
  made_digit : (a b i : ℕ) → digit (op a b) i ≡ f (digit a i) (digit b i)
  unfolding digit
  made_digit a b i =
      ap (λ (x : ℕ). x % 2) (shr a b i ∙ step (a / 2 ^ i) (b / 2 ^ i))
      ∙ digits_mod (op (a / 2 ^ i / 2) (b / 2 ^ i / 2)) (small (a / 2 ^ i % 2) (b / 2 ^ i % 2) (omega arith) (omega arith))

differ_small : (x y : ℕ) → x ≤ 1 → y ≤ 1 → differ x y < 2
differ_small zero y hx hy = omega arith
differ_small (suc x) zero hx hy = omega arith
differ_small (suc x) (suc y) hx hy = differ_small x y (omega arith) (omega arith)

differ_zero : (x : ℕ) → differ x 0 ≡ x
differ_zero zero = refl
differ_zero (suc x) = refl

-- what x has and y has not, and what both have
differ_rest : (x y : ℕ) → x ≤ 1 → y ≤ 1 → differ x (min y x) + min y x ≡ x
differ_rest zero y hx hy = rw (min-zero y) refl
differ_rest (suc zero) zero hx hy = refl
differ_rest (suc zero) (suc zero) hx hy = refl
differ_rest (suc zero) (suc (suc y)) hx hy = absurd (omega arith)
differ_rest (suc (suc x)) y hx hy = absurd (omega arith)

module _ (a b i : ℕ) where
  pub and_digit : digit (bit_and a b) i ≡ min (digit a i) (digit b i)
  and_digit = made_digit bit_and min and_shr and_step (λ x y hx hy. omega arith) a b i

  or_digit : digit (bit_or a b) i ≡ max (digit a i) (digit b i)
  or_digit = made_digit bit_or max or_shr or_step (λ x y hx hy. omega arith) a b i

  xor_digit : digit (bit_xor a b) i ≡ differ (digit a i) (digit b i)
  xor_digit = made_digit bit_xor differ xor_shr xor_step differ_small a b i

  pub and_both : digit (bit_and a b) i ≡ 1 → (digit a i ≡ 1) × (digit b i ≡ 1)
  and_both e = (omega (arith, and_digit, digit_bound a i, digit_bound b i), omega (arith, and_digit, digit_bound a i, digit_bound b i))

-- The digits of r that a has too, and those that it has not, make r.
pub xor_less : (a r i : ℕ) → digit (bit_xor r (bit_and a r)) i + digit (bit_and a r) i ≡ digit r i
xor_less a r i =
    ap (λ (x : ℕ). x + digit (bit_and a r) i) (xor_digit r (bit_and a r) i)
    ∙ ap (λ (x : ℕ). differ (digit r i) x + x) (and_digit a r i)
    ∙ differ_rest (digit r i) (digit a i) (digit_bound r i) (digit_bound a i)

-- ---- the lowest digit that is 1

lowest_of : (k w : ℕ) → 0 < w → w < 2 ^ k → (digit w (count_trailing_zeros k w) ≡ 1) × (count_trailing_zeros k w < k)
unfolding digit count_trailing_zeros
lowest_of zero w some small = absurd (omega arith)
lowest_of (suc k) w some small = go (w % 2) refl (λ p q. lowest_of k (w / 2) p q)
  where
    go : (d : ℕ) → w % 2 ≡ d
        → (0 < w / 2 → w / 2 < 2 ^ k → (digit (w / 2) (count_trailing_zeros k (w / 2)) ≡ 1) × (count_trailing_zeros k (w / 2) < k))
        → (digit w (under d (count_trailing_zeros k (w / 2))) ≡ 1) × (under d (count_trailing_zeros k (w / 2)) < suc k)
    go zero e rest =
        let below : w < 2 ^ k * 2 = rw pow-suc at small in
        let found = rest (omega arith) (omega arith) in
        (half_digit w (count_trailing_zeros k (w / 2)) ∙ found.0, omega (arith, found.1))
    go (suc d) e rest = (ap (λ (x : ℕ). x % 2) (div-one w) ∙ omega arith, omega arith)

pub lowest_digit : (w : ℕ) → 0 < w → w < 2 ^ 64 → (digit w (count_trailing_zeros 64 w) ≡ 1) × (count_trailing_zeros 64 w < 64)
lowest_digit = lowest_of 64

-- ---- a digit put in, and taken out

power_same : (i : ℕ) → digit (2 ^ i) i ≡ 1
unfolding digit
power_same i = ap (λ (x : ℕ). x / 2 ^ i % 2) (sym (one-mul (2 ^ i))) ∙ ap (λ (x : ℕ). x % 2) (shl-shr 1 i)

power_other : (i j : ℕ) → (j ≡ i → ⊥) → digit (2 ^ i) j ≡ 0
unfolding digit
power_other i j ne = go (dec_lt i j)
  where
    go : Dec (i < j) → 2 ^ i / 2 ^ j % 2 ≡ 0
    go (yes l) = ap (λ (x : ℕ). x % 2) (div-eq_of_lt (pow-lt l))
    go (no d) =
        let above : i ≡ suc (i - suc j) + j = omega arith in
        ap (λ (x : ℕ). 2 ^ x / 2 ^ j % 2) above
        ∙ ap (λ (x : ℕ). x / 2 ^ j % 2) (pow-add 2 (suc (i - suc j)) j)
        ∙ ap (λ (x : ℕ). x % 2) (shl-shr (2 ^ suc (i - suc j)) j ∙ pow-suc 2 (i - suc j))
        ∙ mul-mod_left (2 ^ (i - suc j)) 2

-- what a word has in common with a digit alone
and_power : (w i : ℕ) → bit_and w (2 ^ i) ≡ digit w i * 2 ^ i
unfolding digit
and_power w i =
    ap₂ bit_and (sym (split w i)) (sym (add-zero (1 * 2 ^ i) ∙ one-mul (2 ^ i)))
    ∙ and_block i (w / 2 ^ i) 1 (w % 2 ^ i) 0 (mod-lt w (pow_pos i)) (pow_pos i)
    ∙ ap₂ (λ (x y : ℕ). x * 2 ^ i + y) (and_mask (w / 2 ^ i) 1) (and_zero_r (w % 2 ^ i))
    ∙ add-zero (w / 2 ^ i % 2 * 2 ^ i)

module _ (w i : ℕ) where
  pub with_same : digit (with w i) i ≡ 1
  with_same = omega (arith, or_digit w (2 ^ i) i, power_same i, digit_bound w i)

  pub with_other : (j : ℕ) → (j ≡ i → ⊥) → digit (with w i) j ≡ digit w j
  with_other j ne = omega (arith, or_digit w (2 ^ i) j, power_other i j ne)

  pub without_same : digit (without w i) i ≡ 0
  without_same = xor_digit (with w i) (2 ^ i) i ∙ ap₂ differ with_same (power_same i)

  pub without_other : (j : ℕ) → (j ≡ i → ⊥) → digit (without w i) j ≡ digit w j
  without_other j ne = xor_digit (with w i) (2 ^ i) j ∙ ap₂ differ (with_other j ne) (power_other i j ne) ∙ differ_zero (digit w j)

  -- the measure of a loop that takes digits out one by one
  pub without_less : digit w i ≡ 1 → without w i < w
  without_less e =
      let here : bit_and w (2 ^ i) ≡ 2 ^ i = and_power w i ∙ ap (λ (x : ℕ). x * 2 ^ i) e ∙ one-mul (2 ^ i) in
      let there : bit_and (with w i) (2 ^ i) ≡ 2 ^ i = and_power (with w i) i ∙ ap (λ (x : ℕ). x * 2 ^ i) with_same ∙ one-mul (2 ^ i) in
      omega (arith, here, there, or_add_and w (2 ^ i), xor_add_and (with w i) (2 ^ i), pow_pos i)

  -- Words stay words.
  pub with_word_lem : w < 2 ^ 64 → i < 64 → with w i < 2 ^ 64
  with_word_lem small h = or_lt 64 w (2 ^ i) small (pow-lt h)

-- Words below 2 ^ k with the same digits are one word.
same_digits : (k a b : ℕ) → a < 2 ^ k → b < 2 ^ k → ((i : ℕ) → i < k → digit a i ≡ digit b i) → a ≡ b
unfolding digit
same_digits zero a b la lb same = omega arith
same_digits (suc k) a b la lb same =
    let half : a / 2 ≡ b / 2 =
    same_digits k (a / 2) (b / 2) (omega (arith, pow-suc 2 k)) (omega (arith, pow-suc 2 k))
    (λ i h. sym (half_digit a i) ∙ same (suc i) (omega arith) ∙ half_digit b i) in
    omega (arith, half, same 0 (omega arith))

-- So to keep all digits but one is to set that one and flip it.
pub kept_without : (w i : ℕ) → w < 2 ^ 64 → i < 64 → bit_and w (2 ^ 64 - 1 - 2 ^ i) ≡ without w i
unfolding digit
kept_without w i small h =
    same_digits 64 (bit_and w (2 ^ 64 - 1 - 2 ^ i)) (without w i) (omega (arith, and_le_l w (2 ^ 64 - 1 - 2 ^ i)))
    (xor_lt 64 (with w i) (2 ^ i) (with_word_lem w i small h) (pow-lt h))
    (λ j l. go j l (ℕ_discrete j i))
  where
    one : 1 * 2 ^ i % 2 ^ 64 ≡ 2 ^ i
    one = shl_exact {a = 1} 1 i 64 (omega arith) (omega arith) ∙ one-mul (2 ^ i)

    go : (j : ℕ) → j < 64 → Dec (j ≡ i) → digit (bit_and w (2 ^ 64 - 1 - 2 ^ i)) j ≡ digit (without w i) j
    go j l (yes e) = rw e ((rw one at (bit_at_clear_same w64 w i h)) ∙ sym (without_same w i))
    go j l (no d) = (rw one at (bit_at_clear_other w64 w i h j l d)) ∙ sym (without_other w i j d)

-- ---- rows

-- The words of a row hold 64 groups each.
pub half_bit : (m : List ℕ) (g half i : ℕ) → i < 64 → bit m g (64 * half + i) ≡ digit (get_or m (2 * g + half) 0) i
unfolding bit
half_bit m g half i h =
    let high : (64 * half + i) / 64 ≡ half = omega arith in
    let low : (64 * half + i) % 64 ≡ i = omega arith in
    ap₂ (λ (x y : ℕ). digit (get_or m (2 * g + x) 0) y) high low

-- A row of words that are all 0 has nobody.
pub zero_bit : (m : List ℕ) (g h : ℕ) → ((i : ℕ) → get_or m i 0 ≡ 0) → bit m g h ≡ 0
unfolding bit
zero_bit m g h zeros = ap (λ (x : ℕ). digit x (h % 64)) (zeros (2 * g + h / 64)) ∙ zero_digit (h % 64)

-- A word whose digits are all set.
ones_double : (k : ℕ) → 2 ^ suc k - 1 ≡ 2 * (2 ^ k - 1) + 1
ones_double k = omega (arith, pow-suc 2 k, pow_pos k)

pub ones_digit : (k i : ℕ) → i < k → digit (2 ^ k - 1) i ≡ 1
unfolding digit
ones_digit zero i h = absurd (omega arith)
ones_digit (suc k) zero h = omega (arith, ones_double k)
ones_digit (suc k) (suc i) h =
    let half : (2 ^ suc k - 1) / 2 ≡ 2 ^ k - 1 = omega (arith, ones_double k) in
    half_digit (2 ^ suc k - 1) i ∙ ap (λ (x : ℕ). digit x i) half ∙ ones_digit k i (omega arith)

-- A row of two such words has everybody.
pub full_bit : (h : ℕ) → h < 128 → bit (replicate 2 (2 ^ 64 - 1)) 0 h ≡ 1
unfolding bit
full_bit h l =
    ap (λ (x : ℕ). digit x (h % 64)) (get_or-replicate 2 (2 * 0 + h / 64) (2 ^ 64 - 1) 0 (omega arith)) ∙ ones_digit 64 (h % 64) (omega arith)

-- Rows in which one word is changed at one digit, by `with` or `without`.
module _ (change : ℕ → ℕ → ℕ) (m : List ℕ) (g h : ℕ) where
  abbrev place : ℕ
  place = 2 * g + h / 64

  abbrev new : ℕ
  new = change (get_or m place 0) (h % 64)

  changed_same : h < 128 → 2 * g + 2 ≤ length m → bit (set m place new) g h ≡ digit new (h % 64)
  unfolding bit
  changed_same inside rows = ap (λ (x : ℕ). digit x (h % 64)) (get_or-set_same m place new 0 (omega arith))

  -- another word, or another digit of that word
  changed_other :
      ((w i j : ℕ) → (j ≡ i → ⊥) → digit (change w i) j ≡ digit w j)
      → (g' h' : ℕ) → h < 128 → h' < 128 → ((g' ≡ g) × (h' ≡ h) → ⊥) → bit (set m place new) g' h' ≡ bit m g' h'
  unfolding bit
  changed_other other g' h' inside inside' ne = go (ℕ_discrete (2 * g' + h' / 64) place) (dec_lt place (length m))
    where
      go : Dec (2 * g' + h' / 64 ≡ place) → Dec (place < length m)
          → digit (get_or (set m place new) (2 * g' + h' / 64) 0) (h' % 64) ≡ digit (get_or m (2 * g' + h' / 64) 0) (h' % 64)
      go (no d) l = ap (λ (x : ℕ). digit x (h' % 64)) (get_or-set_other m place (2 * g' + h' / 64) new 0 d)
      go (yes e) (yes l) =
          ap (λ (p : ℕ). digit (get_or (set m place new) p 0) (h' % 64)) e
          ∙ ap (λ (x : ℕ). digit x (h' % 64)) (get_or-set_same m place new 0 l)
          ∙ other (get_or m place 0) (h % 64) (h' % 64) (λ z. ne (omega arith, omega arith))
          ∙ ap (λ (p : ℕ). digit (get_or m p 0) (h' % 64)) (sym e)
      -- a place beyond the list is no place, and nothing changes
      go (yes e) (no d) = ap (λ (l : List ℕ). digit (get_or l (2 * g' + h' / 64) 0) (h' % 64)) (set_out m place new (omega arith))

module _ (m : List ℕ) (g h : ℕ) where
  pub put_length : length (put_bit m g h) ≡ length m
  put_length = length-set m (2 * g + h / 64) (with (get_or m (2 * g + h / 64) 0) (h % 64))

  pub cut_length : length (cut_bit m g h) ≡ length m
  cut_length = length-set m (2 * g + h / 64) (without (get_or m (2 * g + h / 64) 0) (h % 64))

  pub put_same : h < 128 → 2 * g + 2 ≤ length m → bit (put_bit m g h) g h ≡ 1
  put_same inside rows = changed_same with m g h inside rows ∙ with_same (get_or m (2 * g + h / 64) 0) (h % 64)

  pub cut_same : h < 128 → 2 * g + 2 ≤ length m → bit (cut_bit m g h) g h ≡ 0
  cut_same inside rows = changed_same without m g h inside rows ∙ without_same (get_or m (2 * g + h / 64) 0) (h % 64)

  pub put_other : (g' h' : ℕ) → h < 128 → h' < 128 → ((g' ≡ g) × (h' ≡ h) → ⊥) → bit (put_bit m g h) g' h' ≡ bit m g' h'
  put_other = changed_other with m g h with_other

  pub cut_other : (g' h' : ℕ) → h < 128 → h' < 128 → ((g' ≡ g) × (h' ≡ h) → ⊥) → bit (cut_bit m g h) g' h' ≡ bit m g' h'
  cut_other = changed_other without m g h without_other

-- ---- each contract leaves one answer

pub put_one : (m : List ℕ) (g h : ℕ) {after after' : List ℕ} → after ≡ put_bit m g h → after' ≡ put_bit m g h → after ≡ after'
put_one m g h a b = a ∙ sym b

pub cut_one : (m : List ℕ) (g h : ℕ) {after after' : List ℕ} → after ≡ cut_bit m g h → after' ≡ cut_bit m g h → after ≡ after'
cut_one m g h a b = a ∙ sym b

pub leave_one : (w i : ℕ) {r r' : ℕ} → r ≡ without w i → r' ≡ without w i → r ≡ r'
leave_one w i a b = a ∙ sym b

pub lowest_one : (w : ℕ) {r r' : ℕ} → r ≡ count_trailing_zeros 64 w → r' ≡ count_trailing_zeros 64 w → r ≡ r'
lowest_one w a b = a ∙ sym b
