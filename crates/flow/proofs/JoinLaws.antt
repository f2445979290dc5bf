-- Laws of joining: one group more in the order, the groups of a word, and those that begin it.
use Prim.Native.Nat.{ℕ, ◌+◌, ◌-◌, ◌*◌, ◌^◌, ◌<◌, ◌≤◌}
use mathlib.Core.Path.{◌≡◌, refl, sym, ap, ◌∙◌}
use mathlib.Core.List.{List}
use mathlib.Core.Bool.{Bool, true, false}
use native.Mathlib.Omega.{arith}
use native.Mathlib.Decide.{ℕ_discrete}
use lib.Count.{count_trailing_zeros}
use lib.ListN.{length, get_or, set, length-set}
use lib.Seq.{get_or-set_same, get_or-set_other, set-set}
use lib.Dec.{eqb}
use borrow.Author.Tests.{eqb-true, eqb-false}
use Rattle.survey.specs.Sets.{sum}
use Rattle.survey.proofs.Sums.{sum_more, sum_cong, term_le}
use Rattle.bits.specs.Bits.{digit, without}
use Rattle.bits.proofs.BitLaws.{digit_bound, zero_digit, lowest_digit, without_same, without_other, without_less}
use Rattle.flow.specs.Drains.{Placed, Joinable, Joined, Begun, FirstMark, lacking, level, Begins}
use Rattle.flow.proofs.SumLaws.{sum_change}

-- ---- a list with one place set

-- at the place it is the new value, elsewhere the old
pub set_by :
    (l : List ℕ) (i v : ℕ) (P : ℕ → ℕ → Type 0) → i < length l → P i v → ((j : ℕ) → (j ≡ i → ⊥) → P j (get_or l j 0)) → (j : ℕ) → P j (get_or (set l i v) j 0)
set_by l i v P h at else j = go (eqb j i) refl
  where
    go : (t : Bool) → eqb j i ≡ t → P j (get_or (set l i v) j 0)
    go true e = rw (eqb-true j i e, get_or-set_same l i v 0 h) at
    go false e = rw (get_or-set_other l i j v 0 (eqb-false j i e)) (else j (eqb-false j i e))

-- ---- c groups placed

pub placed_most : {n c : ℕ} {t order : List ℕ} → Placed n t order c → c ≤ n
placed_most p = omega (arith, p.count)

-- where a group has not joined, there is room for it
pub placed_room : {n c : ℕ} {t order : List ℕ} → Placed n t order c → (g : ℕ) → g < n → get_or t g 0 ≡ 0 → c < n
placed_room {n} {c} {t} p g l z = omega (arith, p.count, term_le n (λ h. 1 - get_or t h 0) g l)

module _ {n c g : ℕ} {t order : List ℕ} (p : Placed n t order c) (l : g < n) (z : get_or t g 0 ≡ 0) (here : g < length t) (room : c < length order) where
  -- who had joined stands where it stood
  kept_order : (i : ℕ) → i < c → get_or (set order c g) i 0 ≡ get_or order i 0
  kept_order i h = get_or-set_other order c i g 0 (λ q. omega arith)

  -- it is at the new place
  new_order : get_or (set order c g) c 0 ≡ g
  new_order = get_or-set_same order c g 0 room

  kept_marks : (h : ℕ) → get_or t h 0 ≡ 1 → get_or (set t g 1) h 0 ≡ 1
  kept_marks = set_by t g 1 (λ h v. get_or t h 0 ≡ 1 → v ≡ 1) here (λ q. refl) (λ j d q. q)

  pub joined_placed : Placed n (set t g 1) (set order c g) (c + 1)
  joined_placed =
      record {
        group = λ i h. set_by order c g (λ i v. i < c + 1 → v < n) room (λ q. l) (λ j d q. p.group j (omega arith)) i h;
        marked = λ i h. set_by order c g (λ i v. i < c + 1 → get_or (set t g 1) v 0 ≡ 1) room (λ q. new_mark) (λ j d q. kept_marks _ (p.marked j (omega arith))) i h;
        once = λ i j h k same. twice i j h k same (eqb j c) refl;
        cover = λ h k m. find h k m (eqb h g) refl;
        bits = λ h k. set_by t g 1 (λ h v. h < n → v ≤ 1) here (λ q. omega arith) (λ j d q. p.bits j q) h k;
        count = omega (arith, p.count, fewer);
      }
    where
      new_mark : get_or (set t g 1) g 0 ≡ 1
      new_mark = get_or-set_same t g 1 0 here

      twice : (i j : ℕ) → i < j → j < c + 1 → get_or (set order c g) i 0 ≡ get_or (set order c g) j 0 → (b : Bool) → eqb j c ≡ b → ⊥
      twice i j h k same true q =
          let at : j ≡ c = eqb-true j c q in
          let old : get_or order i 0 ≡ g = sym (kept_order i (omega arith)) ∙ same ∙ ap (λ m. get_or (set order c g) m 0) at ∙ new_order in
          let mark : get_or t g 0 ≡ 1 = rw old at (p.marked i (omega arith)) in
          omega arith
      twice i j h k same false q =
          let other : j ≡ c → ⊥ = eqb-false j c q in
          p.once i j h (omega arith) (sym (kept_order i (omega arith)) ∙ same ∙ kept_order j (omega arith))

      find : (h : ℕ) → h < n → get_or (set t g 1) h 0 ≡ 1 → (b : Bool) → eqb h g ≡ b → (i : ℕ) × (i < c + 1) × (get_or (set order c g) i 0 ≡ h)
      find h k m true q = (c, omega arith, new_order ∙ sym (eqb-true h g q))
      find h k m false q =
          let f = p.cover h k (sym (get_or-set_other t g h 1 0 (eqb-false h g q)) ∙ m) in
          (f.0, omega (arith, f.1), kept_order f.0 f.1 ∙ f.2)

      fewer : sum n (λ h. 1 - get_or t h 0) ≡ sum n (λ h. 1 - get_or (set t g 1) h 0) + 1
      fewer =
          sum_change n (λ h. 1 - get_or t h 0) (λ h. 1 - get_or (set t g 1) h 0) g 1 l
          (λ i k d. rw (get_or-set_other t g i 1 0 d)) (rw (new_mark, z))

-- ---- the groups of a word join, one by one

-- where that stands: of the groups of word w some have joined, and the others are those of the word `left`
pub record Joining (n half w : ℕ) (t order : List ℕ) (c : ℕ) (t' order' : List ℕ) (c' left : ℕ) : Type 0 where
  pub placed : Placed n t' order' c'
  pub more : c ≤ c'
  pub order_same : (i : ℕ) → i < c → get_or order' i 0 ≡ get_or order i 0
  pub new : (j : ℕ) → c ≤ j → j < c' → (i : ℕ) × (i < 64) × (get_or order' j 0 ≡ 64 * half + i) × (digit w i ≡ 1)
  pub here : (i : ℕ) → i < 64 → get_or t' (64 * half + i) 0 + digit left i ≡ get_or t (64 * half + i) 0 + digit w i
  pub part : (i : ℕ) → digit left i ≤ digit w i
  pub small : left < 2 ^ 64
  pub else : (g : ℕ) → ((i : ℕ) → i < 64 → g ≡ 64 * half + i → ⊥) → get_or t' g 0 ≡ get_or t g 0
  pub t_long : length t' ≡ length t
  pub order_long : length order' ≡ length order

module _ {n half w c₀ : ℕ} {t₀ order₀ : List ℕ} (p : Joinable n half w t₀ order₀ c₀) where
  module _ {c left : ℕ} {t order : List ℕ} (s : Joining n half w t₀ order₀ c₀ t order c left) where
    pub joining_done : left ≡ 0 → Joined n half w t₀ order₀ c₀ t order c
    joining_done z =
        record {
          placed = s.placed;
          more = s.more;
          order_same = s.order_same;
          new = s.new;
          here = λ i h. let none : digit left i ≡ 0 = ap (λ (x : ℕ). digit x i) z ∙ zero_digit i in omega (arith, s.here i h, none);
          else = s.else;
          t_long = s.t_long;
          order_long = s.order_long;
        }

    -- i is the lowest of those that are left: it is one of the word, and has not joined
    module _ {i : ℕ} (some : left ≡ 0 → ⊥) (low : i ≡ count_trailing_zeros 64 left) where
      pub left_below : i < 64
      left_below = omega (arith, low, (lowest_digit left (omega arith) s.small).1)

      left_digit : digit left i ≡ 1
      left_digit = ap (λ (x : ℕ). digit left x) low ∙ (lowest_digit left (omega arith) s.small).0

      pub left_less : without left i < left
      left_less = without_less left i left_digit

      had : digit w i ≡ 1
      had = omega (arith, s.part i, digit_bound w i, left_digit)

      pub left_group : 64 * half + i < n
      left_group = (p.fresh i left_below had).0

      pub left_fresh : get_or t (64 * half + i) 0 ≡ 0
      left_fresh = omega (arith, s.here i left_below, (p.fresh i left_below had).1, had, left_digit)

      pub left_room : c < n
      left_room = placed_room s.placed (64 * half + i) left_group left_fresh

      pub left_here : 64 * half + i < length t
      left_here = omega (arith, left_group, p.t_long, s.t_long)

      pub left_place : c < length order
      left_place = omega (arith, left_room, p.order_long, s.order_long)

      pub joining_on : Joining n half w t₀ order₀ c₀ (set t (64 * half + i) 1) (set order c (64 * half + i)) (c + 1) (without left i)
      joining_on =
          record {
            placed = joined_placed s.placed left_group left_fresh left_here left_place;
            more = omega (arith, s.more);
            order_same = λ j h. get_or-set_other order c j (64 * half + i) 0 (λ q. omega (arith, s.more)) ∙ s.order_same j h;
            new =
                λ j.
                set_by order c (64 * half + i) (λ j v. c₀ ≤ j → j < c + 1 → (k : ℕ) × (k < 64) × (v ≡ 64 * half + k) × (digit w k ≡ 1)) left_place
                (λ h k. (i, left_below, refl, had)) (λ j e h k. s.new j h (omega arith)) j;
            here = λ j h. now j h (ℕ_discrete j i);
            part = λ j. fewer j (ℕ_discrete j i);
            small = omega (arith, left_less, s.small);
            else = λ g e. get_or-set_other t (64 * half + i) g 1 0 (e i left_below) ∙ s.else g e;
            t_long = simp length-set s.t_long;
            order_long = simp length-set s.order_long;
          }
        where
          now :
              (j : ℕ) → j < 64 → Dec (j ≡ i)
              → get_or (set t (64 * half + i) 1) (64 * half + j) 0 + digit (without left i) j ≡ get_or t₀ (64 * half + j) 0 + digit w j
          now j h (yes e) =
              rw e (omega (arith, get_or-set_same t (64 * half + i) 1 0 left_here, without_same left i, s.here i left_below, left_fresh, left_digit))
          now j h (no e) =
              omega (arith, get_or-set_other t (64 * half + i) (64 * half + j) 1 0 (λ q. e (omega arith)), without_other left i j e, s.here j h)

          fewer : (j : ℕ) → Dec (j ≡ i) → digit (without left i) j ≤ digit w j
          fewer j (yes e) = rw e (omega (arith, without_same left i))
          fewer j (no e) = omega (arith, without_other left i j e, s.part j)

-- what stands at the free place counts for nothing
free_placed : {n c : ℕ} {t order : List ℕ} (g : ℕ) → Placed n t order c → Placed n t (set order c g) c
free_placed {n} {c} {t} {order} g p =
    record {
      group = λ i h. rw (kept i h) (p.group i h);
      marked = λ i h. rw (kept i h) (p.marked i h);
      once = λ i j h k same. p.once i j h k (sym (kept i (omega arith)) ∙ same ∙ kept j k);
      cover = λ h k m. let f = p.cover h k m in (f.0, f.1, kept f.0 f.1 ∙ f.2);
      bits = p.bits;
      count = p.count;
    }
  where
    kept : (i : ℕ) → i < c → get_or (set order c g) i 0 ≡ get_or order i 0
    kept i h = get_or-set_other order c i g 0 (λ q. omega arith)

-- ---- the groups that begin it, one after the other

pub begun_none : (la t order : List ℕ) → Begun 0 la t order t order 0
unfolding sum
begun_none la t order =
    record {
      placed =
          record {
            group = λ i h. absurd (omega arith);
            marked = λ i h. absurd (omega arith);
            once = λ i j h k. absurd (omega arith);
            cover = λ g h. absurd (omega arith);
            bits = λ g h. absurd (omega arith);
            count = refl;
          };
      starts = λ i h. absurd (omega arith);
      holds = λ g h. absurd (omega arith);
      rest = λ g h. refl;
      t_long = refl;
      order_long = refl;
    }

-- one group more is looked at, and has no lack
level_placed : {g c : ℕ} {t order : List ℕ} → Placed g t order c → g < length t → Placed (g + 1) (set t g 0) order c
level_placed {g} {c} {t} {order} p here =
    record {
      group = λ i h. omega (arith, p.group i h);
      marked = λ i h. get_or-set_other t g _ 0 0 (λ q. omega (arith, p.group i h)) ∙ p.marked i h;
      once = p.once;
      cover = λ h. set_by t g 0 (λ h v. h < g + 1 → v ≡ 1 → (i : ℕ) × (i < c) × (get_or order i 0 ≡ h)) here (λ k m. absurd (omega arith)) (λ j d k m. p.cover j (omega arith) m) h;
      bits = λ h. set_by t g 0 (λ h v. h < g + 1 → v ≤ 1) here (λ k. omega arith) (λ j d k. p.bits j (omega arith)) h;
      count =
          omega (
            arith,
            p.count,
            sum_more g (λ h. 1 - get_or (set t g 0) h 0),
            get_or-set_same t g 0 0 here,
            sum_cong g (λ h. 1 - get_or (set t g 0) h 0) (λ h. 1 - get_or t h 0) (λ i k. ap (λ v. 1 - v) (get_or-set_other t g i 0 0 (λ q. omega arith))),
          );
    }

pub begun_more :
    {g c c' : ℕ} {la t₀ order₀ t order t' order' : List ℕ} → Begun g la t₀ order₀ t order c → g < length t → c < length order
    → Begins g (get_or la g 0) t order c t' order' c' → Begun (g + 1) la t₀ order₀ t' order' c'
begun_more {g} {c} {c'} {la} {t₀} {order₀} {t} {order} b here room x = rw (x.marks, x.place, x.count) (go x.first)
  where
    go : {mark : ℕ} → FirstMark (get_or la g 0) mark → Begun (g + 1) la t₀ order₀ (set t g mark) (set order c g) (c + mark)
    go (lacking a) =
        record {
          placed = rw (set-set t g 0 1) at (joined_placed (level_placed b.placed here) (omega arith) (get_or-set_same t g 0 0 here) (simp length-set here) room);
          starts = λ i. set_by order c g (λ i v. i < c + 1 → 0 < get_or la v 0) room (λ h. a) (λ j d h. b.starts j (omega arith)) i;
          holds = λ h. set_by t g 1 (λ h v. h < g + 1 → 0 < get_or la h 0 → v ≡ 1) here (λ k m. refl) (λ j d k m. b.holds j (omega arith) m) h;
          rest = λ h k. get_or-set_other t g h 1 0 (λ q. omega arith) ∙ b.rest h (omega arith);
          t_long = simp length-set b.t_long;
          order_long = simp length-set b.order_long;
        }
    go (level a) =
        let same : c + 0 ≡ c = omega arith in
        rw same
        (record {
          placed = free_placed g (level_placed b.placed here);
          starts = λ i h. rw (get_or-set_other order c i g 0 (λ q. omega arith)) (b.starts i h);
          holds = λ h. set_by t g 0 (λ h v. h < g + 1 → 0 < get_or la h 0 → v ≡ 1) here (λ k m. absurd (omega arith)) (λ j d k m. b.holds j (omega arith) m) h;
          rest = λ h k. get_or-set_other t g h 0 0 (λ q. omega arith) ∙ b.rest h (omega arith);
          t_long = simp length-set b.t_long;
          order_long = simp length-set b.order_long;
        })

pub above_0 : {m : ℕ} → (m ≡ 0 → ⊥) → 0 < m
above_0 d = omega arith
