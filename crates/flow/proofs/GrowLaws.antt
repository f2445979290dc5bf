-- Laws of the growing: one step after the other, who has not joined, and one half of a row, of which those join that have not.
use Prim.Native.Nat.{ℕ, ◌+◌, ◌*◌, ◌/◌, ◌%◌, ◌<◌, ◌≤◌}
use mathlib.Core.Path.{◌≡◌, refl, sym, ap, ◌∙◌}
use mathlib.Core.List.{List}
use mathlib.Core.Bool.{Bool, true, false}
use native.Mathlib.Omega.{arith}
use native.Mathlib.Decide.{ℕ_discrete}
use lib.Bits.{bit_and, bit_xor}
use lib.ListN.{length, get_or, set, length-set}
use lib.Seq.{get_or-set_same, get_or-set_other}
use lib.Dec.{ltb}
use borrow.Author.Tests.{ltb-true, ltb-false}
use Rattle.bits.specs.Bits.{digit, bit, cut_bit}
use Rattle.bits.proofs.BitLaws.{digit_bound, and_digit, and_both, xor_less, half_bit, cut_same, cut_other, cut_length}
use Rattle.flow.specs.Drains.{Placed, InRow, Joinable, Joined, Grew, Seeable, SawHalf, Others, OthersOf, Growable}

-- ---- one step after the other

-- who stands in the row of an earlier one does so while the places stay
row_stays : {ways order order' : List ℕ} {c i : ℕ} → ((j : ℕ) → j < c → get_or order' j 0 ≡ get_or order j 0) → i < c → InRow ways order i → InRow ways order' i
row_stays same h p =
    record {
      earlier = p.earlier;
      before = p.before;
      has = rw (same _ h, same p.earlier (omega (arith, p.before))) p.has;
    }

module _ {n : ℕ} {ways : List ℕ} where
  pub grew_on :
      {t order t' order' t'' order'' : List ℕ} {c c' c'' : ℕ} → Grew n ways t order c t' order' c' → Grew n ways t' order' c' t'' order'' c''
      → Grew n ways t order c t'' order'' c''
  grew_on {order'' = order''} {c = c} {c' = c'} {c'' = c''} a b =
      record {
        placed = b.placed;
        more = omega (arith, a.more, b.more);
        order_same = λ i h. b.order_same i (omega (arith, a.more)) ∙ a.order_same i h;
        rows = λ i h k. go i h k (ltb i c') refl;
        marks = λ g m. b.marks g (a.marks g m);
        rest = λ g h. b.rest g h ∙ a.rest g h;
        t_long = b.t_long ∙ a.t_long;
        order_long = b.order_long ∙ a.order_long;
      }
    where
      go : (i : ℕ) → c ≤ i → i < c'' → (t : Bool) → ltb i c' ≡ t → InRow ways order'' i
      go i h k true e = let l = ltb-true i c' e in row_stays b.order_same l (a.rows i h l)
      go i h k false e = b.rows i (ltb-false i c' e) k

-- ---- who has not joined, noted group by group

pub others_more :
    {i : ℕ} {order others₀ others : List ℕ} → get_or order i 0 < 128 → 2 ≤ length others → ((j : ℕ) → j < i → get_or order j 0 < 128) → OthersOf order i others₀ others
    → OthersOf order (i + 1) others₀ (cut_bit others 0 (get_or order i 0))
others_more {i} {order} {others₀} {others} few room group o =
    record {
      taken = λ j h. gone j h (ℕ_discrete (get_or order j 0) (get_or order i 0));
      left = λ g l d. cut_other others 0 (get_or order i 0) 0 g few l (λ z. d i (omega arith) (sym z.1)) ∙ o.left g l (λ j h. d j (omega arith));
      long = cut_length others 0 (get_or order i 0) ∙ o.long;
    }
  where
    gone : (j : ℕ) → j < i + 1 → Dec (get_or order j 0 ≡ get_or order i 0) → bit (cut_bit others 0 (get_or order i 0)) 0 (get_or order j 0) ≡ 0
    gone j h (yes z) = rw z (cut_same others 0 (get_or order i 0) few room)
    gone j h (no d) =
        let other : j ≡ i → ⊥ = λ z. d (ap (λ m. get_or order m 0) z) in
        cut_other others 0 (get_or order i 0) 0 (get_or order j 0) few (group j (omega arith)) (λ z. d z.1) ∙ o.taken j (omega arith)

-- of a full row those that begin it are taken out, so the others are left
pub others_begun :
    {n c : ℕ} {t order others others' : List ℕ} → n ≤ 128 → Placed n t order c → ((g : ℕ) → g < 128 → bit others 0 g ≡ 1) → OthersOf order c others others' → Others n t others'
others_begun {n} {c} {t} {order} {others} {others'} few p full o = record { each = λ g l. go g l (ℕ_discrete (get_or t g 0) 1) }
  where
    go : (g : ℕ) → g < n → Dec (get_or t g 0 ≡ 1) → bit others' 0 g + get_or t g 0 ≡ 1
    go g l (yes z) = let f = p.cover g l z in let gone = rw f.2 at (o.taken f.0 f.1) in omega (arith, gone)
    go g l (no d) =
        let stays = o.left g (omega arith) (λ i h q. d (rw q at (p.marked i h))) in
        omega (arith, stays, full g (omega arith), p.bits g l)

-- ---- one half of the row of p

-- a digit that is not 1 is 0
no_digit : (w i : ℕ) → (digit w i ≡ 1 → ⊥) → digit w i ≡ 0
no_digit w i d = omega (arith, digit_bound w i)

-- a group is of this half or not
by_half : {P : Type 0} (half g : ℕ) → ((i : ℕ) → i < 64 → g ≡ 64 * half + i → P) → (((i : ℕ) → i < 64 → g ≡ 64 * half + i → ⊥) → P) → P
by_half {P} half g here there = go (ℕ_discrete (g / 64) half)
  where
    go : Dec (g / 64 ≡ half) → P
    go (yes e) = here (g % 64) (omega arith) (omega arith)
    go (no d) = there (λ i l e. d (omega arith))

module _ {n p half c : ℕ} {ways others t order : List ℕ} (s : Seeable n p half ways others t order c) where
  -- the word of the row, and that of who has not joined
  abbrev row_word : ℕ
  row_word = get_or ways (2 * p + half) 0

  abbrev left_word : ℕ
  left_word = get_or others half 0

  -- the word of those that join
  abbrev fresh_word : ℕ
  fresh_word = bit_and row_word left_word

  other_bit : (i : ℕ) → i < 64 → bit others 0 (64 * half + i) ≡ digit left_word i
  other_bit i l = half_bit others 0 half i l ∙ ap (λ (x : ℕ). digit (get_or others x 0) i) (omega arith)

  row_bit : (i : ℕ) → i < 64 → bit ways p (64 * half + i) ≡ digit row_word i
  row_bit i l = half_bit ways p half i l

  -- each group of both words is one of the survey that has not joined
  fresh_group : (i : ℕ) → i < 64 → digit fresh_word i ≡ 1 → 64 * half + i < n
  fresh_group i l d =
      s.growing.growable.inside p (64 * half + i) (omega (arith, s.which)) (row_bit i l ∙ (and_both row_word left_word i d).0)

  fresh_mark : (i : ℕ) → i < 64 → digit fresh_word i ≡ 1 → get_or t (64 * half + i) 0 ≡ 0
  fresh_mark i l d =
      omega (arith, s.growing.who.each (64 * half + i) (fresh_group i l d), other_bit i l, (and_both row_word left_word i d).1)

  pub see_joinable : Joinable n half fresh_word t order c
  see_joinable =
      record {
        few = s.growing.growable.few;
        which = s.which;
        fresh = λ i l d. (fresh_group i l d, fresh_mark i l d);
        placed = s.growing.growable.placed;
        t_long = s.growing.growable.t_long;
        order_long = s.growing.growable.order_long;
      }

  -- whoever had joined, and whoever is no group, has no digit in the word of those that join
  joined_none : (i : ℕ) → i < 64 → get_or t (64 * half + i) 0 ≡ 1 → digit fresh_word i ≡ 0
  joined_none i l m = no_digit fresh_word i (λ d. omega (arith, fresh_mark i l d))

  outside_none : (i : ℕ) → i < 64 → n ≤ 64 * half + i → digit fresh_word i ≡ 0
  outside_none i l h = no_digit fresh_word i (λ d. omega (arith, fresh_group i l d))

  module _ {t' order' : List ℕ} {c' : ℕ} (j : Joined n half fresh_word t order c t' order' c') where
    saw_grew : Grew n ways t order c t' order' c'
    saw_grew =
        record {
          placed = j.placed;
          more = j.more;
          order_same = j.order_same;
          rows =
              λ i h k.
              let f = j.new i h k in
              let q = s.growing.growable.placed.cover p s.below s.joined in
              record {
                earlier = q.0;
                before = omega (arith, q.1);
                has = rw (j.order_same q.0 q.1, q.2, f.2) (row_bit f.0 f.1 ∙ (and_both row_word left_word f.0 f.3).0);
              };
          marks =
              λ g m.
              by_half half g (λ i l e. rw e (omega (arith, j.here i l, joined_none i l (rw e at m), ap (λ (x : ℕ). get_or t x 0) e, m))) (λ d. j.else g d ∙ m);
          rest = λ g h. by_half half g (λ i l e. rw e (omega (arith, j.here i l, outside_none i l (omega arith)))) (λ d. j.else g d);
          t_long = j.t_long;
          order_long = j.order_long;
        }

    -- who has not joined now
    saw_who : Others n t' (set others half (bit_xor left_word fresh_word))
    unfolding bit
    saw_who = record { each = λ g h. by_half half g (λ i l e. rw e (here i l (omega arith))) (λ d. there g h d) }
      where
        at_half : (i : ℕ) → i < 64 → bit (set others half (bit_xor left_word fresh_word)) 0 (64 * half + i) ≡ digit (bit_xor left_word fresh_word) i
        at_half i l =
            half_bit (set others half (bit_xor left_word fresh_word)) 0 half i l
            ∙ ap (λ (x : ℕ). digit (get_or (set others half (bit_xor left_word fresh_word)) x 0) i) (omega arith)
            ∙ ap (λ (x : ℕ). digit x i) (get_or-set_same others half (bit_xor left_word fresh_word) 0 (omega (arith, s.which, s.growing.room)))

        here : (i : ℕ) → i < 64 → 64 * half + i < n → bit (set others half (bit_xor left_word fresh_word)) 0 (64 * half + i) + get_or t' (64 * half + i) 0 ≡ 1
        here i l h =
            omega (arith, at_half i l, xor_less row_word left_word i, j.here i l, s.growing.who.each (64 * half + i) h, other_bit i l)

        there :
            (g : ℕ) → g < n → ((i : ℕ) → i < 64 → g ≡ 64 * half + i → ⊥) → bit (set others half (bit_xor left_word fresh_word)) 0 g + get_or t' g 0 ≡ 1
        there g h d =
            let same : bit (set others half (bit_xor left_word fresh_word)) 0 g ≡ bit others 0 g
            = ap (λ (x : ℕ). digit x (g % 64))
            (get_or-set_other others half (2 * 0 + g / 64) (bit_xor left_word fresh_word) 0 (λ q. d (g % 64) (omega arith) (omega arith))) in
            omega (arith, same, j.else g d, s.growing.who.each g h)

    pub saw_half : SawHalf n p half ways others t order c (set others half (bit_xor left_word fresh_word)) t' order' c'
    saw_half =
        record {
          grew = saw_grew;
          seen =
              λ i l b.
              let group : 64 * half + i < n = s.growing.growable.inside p (64 * half + i) (omega (arith, s.which, l)) b in
              omega (
                arith,
                j.here i l,
                and_digit row_word left_word i,
                row_bit i l,
                b,
                other_bit i l,
                s.growing.who.each (64 * half + i) group,
                digit_bound left_word i,
              );
          who = saw_who;
          long = length-set others half (bit_xor left_word fresh_word);
        }

pub grew_none : {n c : ℕ} {ways t order : List ℕ} → Placed n t order c → Grew n ways t order c t order c
grew_none p =
    record {
      placed = p;
      more = omega arith;
      order_same = λ i h. refl;
      rows = λ i h k. absurd (omega arith);
      marks = λ g m. m;
      rest = λ g h. refl;
      t_long = refl;
      order_long = refl;
    }

-- what the next step asks
pub grew_growable :
    {n c c' : ℕ} {ways t order t' order' : List ℕ} → Growable n ways t order c → Grew n ways t order c t' order' c' → Growable n ways t' order' c'
grew_growable p a =
    record {
      few = p.few;
      ways_long = p.ways_long;
      inside = p.inside;
      placed = a.placed;
      t_long = omega (arith, a.t_long, p.t_long);
      order_long = omega (arith, a.order_long, p.order_long);
    }
