-- Laws of the ways as rows of bits: they are found link after link, and where the amount of a link changes, one bit keeps up with it.
use Prim.Native.Nat.{ℕ, ◌+◌, ◌*◌, ◌<◌, ◌≤◌}
use mathlib.Core.Path.{◌≡◌, refl, sym, ap, ap₂, ◌∙◌}
use mathlib.Core.Logic.{◌⊎◌, inl, inr}
use mathlib.Core.List.{List}
use native.Mathlib.Decide.{ℕ_discrete, dec_lt}
use native.Mathlib.Omega.{arith}
use lib.ListN.{length, get_or, replicate, get_or-replicate, get_or-eq_default, length-replicate}
use Rattle.survey.specs.Limits.{group_limit}
use Rattle.survey.specs.Survey.{Survey, one, more, Cycle}
use Rattle.survey.specs.Balance.{Amounts}
use Rattle.bits.specs.Bits.{bit, put_bit, cut_bit}
use Rattle.bits.proofs.BitLaws.{zero_bit, put_length, cut_length, put_same, put_other, cut_same, cut_other}
use Rattle.flow.specs.Copies.{end_in, copied, Copy}
use Rattle.flow.specs.Ways.{Way, pays, gives_back, Ways, Noted, stands, fails, WayFound, both_ways, one_way}

-- ---- one bit

pub noted_length : {h g a : ℕ} {rows rows' : List ℕ} → Noted h g a rows rows' → length rows' ≡ length rows
noted_length {h} {g} {rows = rows} (stands some) = put_length rows g h
noted_length {h} {g} {rows = rows} (fails none) = cut_length rows g h

pub found_length : {p q a : ℕ} {ways ways' : List ℕ} → WayFound p q a ways ways' → length ways' ≡ length ways
found_length {p} {q} {ways = ways} (both_ways some) = put_length (put_bit ways p q) q p ∙ put_length ways p q
found_length {p} {q} {ways = ways} (one_way none) = put_length ways p q

-- Bit h' of row g' is bit h of row g, or another one.
same_bit : (g g' h h' : ℕ) → ((g' ≡ g) × (h' ≡ h)) ⊎ ((g' ≡ g) × (h' ≡ h) → ⊥)
same_bit g g' h h' = go (ℕ_discrete g' g) (ℕ_discrete h' h)
  where
    go : Dec (g' ≡ g) → Dec (h' ≡ h) → ((g' ≡ g) × (h' ≡ h)) ⊎ ((g' ≡ g) × (h' ≡ h) → ⊥)
    go (yes i) (yes j) = inl (i, j)
    go (no d) t = inr (λ z. d z.0)
    go (yes i) (no d) = inr (λ z. d z.1)

-- the same bit by other names
named : (m : List ℕ) {g g' h h' : ℕ} → g' ≡ g → h' ≡ h → bit m g h ≡ 1 → bit m g' h' ≡ 1
named m i j has = ap₂ (bit m) i j ∙ has

module _ (m : List ℕ) (g h : ℕ) (small : h < group_limit) where
  -- what stood in the rows stands there when a bit is put
  put_keeps : (g' h' : ℕ) → h' < group_limit → 2 * g + 2 ≤ length m → bit m g' h' ≡ 1 → bit (put_bit m g h) g' h' ≡ 1
  put_keeps g' h' small' room has = go (same_bit g g' h h')
    where
      go : ((g' ≡ g) × (h' ≡ h)) ⊎ ((g' ≡ g) × (h' ≡ h) → ⊥) → bit (put_bit m g h) g' h' ≡ 1
      go (inl z) = named (put_bit m g h) z.0 z.1 (put_same m g h small room)
      go (inr d) = put_other m g h g' h' small small' d ∙ has

  -- what stands there was put, or stood there before
  put_before : (g' h' : ℕ) → h' < group_limit → bit (put_bit m g h) g' h' ≡ 1 → ((g' ≡ g) × (h' ≡ h)) ⊎ (bit m g' h' ≡ 1)
  put_before g' h' small' has = go (same_bit g g' h h')
    where
      go : ((g' ≡ g) × (h' ≡ h)) ⊎ ((g' ≡ g) × (h' ≡ h) → ⊥) → ((g' ≡ g) × (h' ≡ h)) ⊎ (bit m g' h' ≡ 1)
      go (inl z) = inl z
      go (inr d) = inr (sym (put_other m g h g' h' small small' d) ∙ has)

-- ---- link after link

-- rows of nobody, as they are before the ways are found
pub no_ways : (m p g : ℕ) → bit (replicate m 0) p g ≡ 0
no_ways m p g = zero_bit (replicate m 0) p g (λ i. go i (dec_lt i m))
  where
    go : (i : ℕ) → Dec (i < m) → ◌≡◌ {A = ℕ} (get_or (replicate m 0) i 0) 0
    go i (yes l) = get_or-replicate m i 0 0 l
    go i (no d) = get_or-eq_default (replicate m 0) 0 (omega (arith, length-replicate {A = ℕ} m 0))

-- rows that have the ways of link k besides
record Added (s : Survey) (x : Amounts) (k : ℕ) (ways ways' : List ℕ) : Type 0 where
  kept : (p g : ℕ) → g < group_limit → bit ways p g ≡ 1 → bit ways' p g ≡ 1
  new : (g p : ℕ) → Way s x k g p → bit ways' p g ≡ 1
  before : (p g : ℕ) → g < group_limit → bit ways' p g ≡ 1 → Way s x k g p ⊎ (bit ways p g ≡ 1)

module _ {n e : ℕ} {ends : List ℕ} (net : Copy n e ends) where
  -- Who can pay is a group.
  way_inside : {x : Amounts} {k g p : ℕ} → k < e → Way (copied n e ends) x k g p → g < n
  way_inside {k = k} l (pays t f) = omega (arith, net.to k l)
  way_inside {k = k} l (gives_back f t some) = omega (arith, net.from k l)

  way_small : {x : Amounts} {k g p : ℕ} → k < e → Way (copied n e ends) x k g p → g < group_limit
  way_small l way = omega (arith, way_inside l way, net.few_groups)

  pub ways_inside : {x : Amounts} {ways : List ℕ} → Ways (copied n e ends) x e ways → (p g : ℕ) → g < group_limit → bit ways p g ≡ 1 → g < n
  ways_inside w p g small has = let found = w.sound p g small has in way_inside found.1 found.2

  added_ways :
      {x : Amounts} {k : ℕ} {ways ways' : List ℕ} → k < e → Added (copied n e ends) x k ways ways' → Ways (copied n e ends) x k ways
      → Ways (copied n e ends) x (k + 1) ways'
  added_ways {x} {k} {ways} {ways'} l a w =
      record {
        sound = λ p g small has. old p g small (a.before p g small has);
        complete = λ j g p b way. go j g p b way (ℕ_discrete j k);
      }
    where
      old : (p g : ℕ) → g < group_limit → Way (copied n e ends) x k g p ⊎ (bit ways p g ≡ 1) → (j : ℕ) × (j < k + 1) × Way (copied n e ends) x j g p
      old p g small (inl way) = (k, omega arith, way)
      old p g small (inr has) = let found = w.sound p g small has in (found.0, omega (arith, found.1), found.2)

      go : (j g p : ℕ) → j < k + 1 → Way (copied n e ends) x j g p → Dec (j ≡ k) → bit ways' p g ≡ 1
      go j g p b way (yes z) = a.new g p (rw z at way)
      go j g p b way (no d) = a.kept p g (way_small (omega arith) way) (w.complete j g p (omega arith) way)

  -- link k from p to q, whose bits are put into the rows
  module _
      (x : Amounts) (k p q : ℕ) (l : k < e) (zp : p ≡ end_in ends 0 k) (zq : q ≡ end_in ends 1 k) (ways : List ℕ) (room : 2 * n ≤ length ways) where
    p_small : p < group_limit
    p_small = omega (arith, net.from k l, net.few_groups)

    q_small : q < group_limit
    q_small = omega (arith, net.to k l, net.few_groups)

    from_room : 2 * p + 2 ≤ length ways
    from_room = omega (arith, net.from k l)

    to_room : 2 * q + 2 ≤ length (put_bit ways p q)
    to_room = omega (arith, net.to k l, put_length ways p q)

    paying : (h g : ℕ) → ((g ≡ p) × (h ≡ q)) ⊎ (bit ways g h ≡ 1) → Way (copied n e ends) x k h g ⊎ (bit ways g h ≡ 1)
    paying h g (inl z) = inl (pays (sym (z.1 ∙ zq)) (sym (z.0 ∙ zp)))
    paying h g (inr has) = inr has

    one_added : x k ≡ 0 → Added (copied n e ends) x k ways (put_bit ways p q)
    one_added none =
        record {
          kept = λ g h small has. put_keeps ways p q q_small g h small from_room has;
          new = new;
          before = λ g h small has. paying h g (put_before ways p q q_small g h small has);
        }
      where
        new : (h g : ℕ) → Way (copied n e ends) x k h g → bit (put_bit ways p q) g h ≡ 1
        new h g (pays t f) = named (put_bit ways p q) (sym f ∙ sym zp) (sym t ∙ sym zq) (put_same ways p q q_small from_room)
        new h g (gives_back f t some) = absurd (omega arith)

    both_added : 0 < x k → Added (copied n e ends) x k ways (put_bit (put_bit ways p q) q p)
    both_added some =
        record {
          kept = λ g h small has. kept g h small (put_keeps ways p q q_small g h small from_room has);
          new = new;
          before = λ g h small has. before g h small (put_before (put_bit ways p q) q p p_small g h small has);
        }
      where
        kept : (g h : ℕ) → h < group_limit → bit (put_bit ways p q) g h ≡ 1 → bit (put_bit (put_bit ways p q) q p) g h ≡ 1
        kept g h small has = put_keeps (put_bit ways p q) q p p_small g h small to_room has

        new : (h g : ℕ) → Way (copied n e ends) x k h g → bit (put_bit (put_bit ways p q) q p) g h ≡ 1
        new h g (pays t f) = named (put_bit (put_bit ways p q) q p) (sym f ∙ sym zp) (sym t ∙ sym zq) (kept p q q_small (put_same ways p q q_small from_room))
        new h g (gives_back f t _) = named (put_bit (put_bit ways p q) q p) (sym t ∙ sym zq) (sym f ∙ sym zp) (put_same (put_bit ways p q) q p p_small to_room)

        before :
            (g h : ℕ) → h < group_limit → ((g ≡ q) × (h ≡ p)) ⊎ (bit (put_bit ways p q) g h ≡ 1) → Way (copied n e ends) x k h g ⊎ (bit ways g h ≡ 1)
        before g h small (inl z) = inl (gives_back (sym (z.1 ∙ zp)) (sym (z.0 ∙ zq)) some)
        before g h small (inr has) = paying h g (put_before ways p q q_small g h small has)

  pub ways_more :
      {x : Amounts} {k p q : ℕ} {ways ways' : List ℕ} → k < e → p ≡ end_in ends 0 k → q ≡ end_in ends 1 k → 2 * n ≤ length ways
      → Ways (copied n e ends) x k ways → WayFound p q (x k) ways ways' → Ways (copied n e ends) x (k + 1) ways'
  ways_more {x} {k} {p} {q} {ways} l zp zq room w (both_ways some) = added_ways l (both_added x k p q l zp zq ways room some) w
  ways_more {x} {k} {p} {q} {ways} l zp zq room w (one_way none) = added_ways l (one_added x k p q l zp zq ways room none) w

-- ---- the amount on one link changes

-- Every bit but one, that of link k's from in the row of its to, stands for the same ways as before.
other_way :
    (s : Survey) (x x' : Amounts) (k : ℕ) → ((i : ℕ) → (i ≡ k → ⊥) → x' i ≡ x i) → (j g p : ℕ) → ((p ≡ (s.link k).to) × (g ≡ (s.link k).from) → ⊥)
    → Way s x j g p → Way s x' j g p
other_way s x x' k same j g p d (pays t f) = pays t f
other_way s x x' k same j g p d (gives_back f t some) = gives_back f t (go (ℕ_discrete j k))
  where
    go : Dec (j ≡ k) → 0 < x' j
    go (yes z) = absurd (d (sym t ∙ ap (λ (i : ℕ). (s.link i).to) z, sym f ∙ ap (λ (i : ℕ). (s.link i).from) z))
    go (no ne) = omega (arith, same j ne)

module _
    {n e : ℕ} {ends : List ℕ} (net : Copy n e ends) (no_cycle : Cycle (copied n e ends) → ⊥)
    (once : (j k : ℕ) → j < e → k < e → end_in ends 0 j ≡ end_in ends 0 k → end_in ends 1 j ≡ end_in ends 1 k → j ≡ k) where
  -- The from of link k can pay into its to through k alone, by giving back: if it paid through a link j, then j and k would be a cycle.
  way_amount :
      (x : Amounts) (k j g p : ℕ) → k < e → j < e → p ≡ end_in ends 1 k → g ≡ end_in ends 0 k → Way (copied n e ends) x j g p → 0 < x k
  way_amount x k j g p l m zp zg (pays t f) = absurd (no_cycle (end_in ends 1 k, more k l (one j m (f ∙ zp) (t ∙ zg)) refl))
  way_amount x k j g p l m zp zg (gives_back f t some) = let same : j ≡ k = once j k m l (f ∙ zg) (t ∙ zp) in omega (arith, ap x same)

  -- rows in which that bit stands where link k has an amount, and the others are as before
  changed_ways :
      (x x' : Amounts) (k : ℕ) (ways ways' : List ℕ) → k < e → ((i : ℕ) → (i ≡ k → ⊥) → x' i ≡ x i)
      → ((p g : ℕ) → g < group_limit → ((p ≡ end_in ends 1 k) × (g ≡ end_in ends 0 k) → ⊥) → bit ways' p g ≡ bit ways p g)
      → (bit ways' (end_in ends 1 k) (end_in ends 0 k) ≡ 1 → 0 < x' k) → (0 < x' k → bit ways' (end_in ends 1 k) (end_in ends 0 k) ≡ 1)
      → Ways (copied n e ends) x e ways → Ways (copied n e ends) x' e ways'
  changed_ways x x' k ways ways' l same other amount stood w =
      record {
        sound = λ p g small has. sound p g small has (same_bit (end_in ends 1 k) p (end_in ends 0 k) g);
        complete = λ j g p m way. complete j g p m way (same_bit (end_in ends 1 k) p (end_in ends 0 k) g);
      }
    where
      sound :
          (p g : ℕ) → g < group_limit → bit ways' p g ≡ 1
          → ((p ≡ end_in ends 1 k) × (g ≡ end_in ends 0 k)) ⊎ ((p ≡ end_in ends 1 k) × (g ≡ end_in ends 0 k) → ⊥)
          → (j : ℕ) × (j < e) × Way (copied n e ends) x' j g p
      sound p g small has (inl z) = (k, l, gives_back (sym z.1) (sym z.0) (amount (named ways' (sym z.0) (sym z.1) has)))
      sound p g small has (inr d) =
          let found = w.sound p g small (sym (other p g small d) ∙ has) in
          (found.0, found.1, other_way (copied n e ends) x x' k same found.0 g p d found.2)

      complete :
          (j g p : ℕ) → j < e → Way (copied n e ends) x' j g p
          → ((p ≡ end_in ends 1 k) × (g ≡ end_in ends 0 k)) ⊎ ((p ≡ end_in ends 1 k) × (g ≡ end_in ends 0 k) → ⊥) → bit ways' p g ≡ 1
      complete j g p m way (inl z) = named ways' z.0 z.1 (stood (way_amount x' k j g p l m z.0 z.1 way))
      complete j g p m way (inr d) =
          other p g (way_small net m way) d ∙ w.complete j g p m (other_way (copied n e ends) x' x k (λ i ne. sym (same i ne)) j g p d way)

  -- With the new amount of link k noted at that bit, the rows have the ways again.
  pub noted_ways :
      {x x' : Amounts} {k : ℕ} {ways ways' : List ℕ} → k < e → 2 * n ≤ length ways → ((i : ℕ) → (i ≡ k → ⊥) → x' i ≡ x i)
      → Ways (copied n e ends) x e ways → Noted (end_in ends 0 k) (end_in ends 1 k) (x' k) ways ways' → Ways (copied n e ends) x' e ways'
  noted_ways {x} {x'} {k} {ways} l room same w (stands some) =
      let f = end_in ends 0 k in
      let t = end_in ends 1 k in
      let few : f < group_limit = omega (arith, net.from k l, net.few_groups) in
      let within : 2 * t + 2 ≤ length ways = omega (arith, net.to k l) in
      changed_ways x x' k ways (put_bit ways t f) l same (λ p g. put_other ways t f p g few) (λ has. some) (λ above. put_same ways t f few within) w
  noted_ways {x} {x'} {k} {ways} l room same w (fails none) =
      let f = end_in ends 0 k in
      let t = end_in ends 1 k in
      let few : f < group_limit = omega (arith, net.from k l, net.few_groups) in
      let within : 2 * t + 2 ≤ length ways = omega (arith, net.to k l) in
      changed_ways x x' k ways (cut_bit ways t f) l same (λ p g. cut_other ways t f p g few)
      (λ has. absurd (omega (arith, cut_same ways t f few within))) (λ above. absurd (omega arith)) w
