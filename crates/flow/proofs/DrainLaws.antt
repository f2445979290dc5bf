-- Laws of the set that drains: once the row of each group in it is seen to, it is the least one, and there is one least set.
use Prim.Native.Nat.{ℕ, zero, suc, ◌+◌, ◌-◌, ◌*◌, ◌<◌, ◌≤◌}
use mathlib.Core.Path.{◌≡◌, refl, sym, ◌∙◌, ap}
use mathlib.Core.List.{List}
use mathlib.Core.Bool.{Bool, true, false}
use native.Mathlib.Omega.{arith}
use native.Mathlib.Decide.{ℕ_discrete, dec_lt}
use lib.ListN.{length, get_or}
use lib.Seq.{ext_get_or}
use lib.Dec.{eqb, ltb}
use borrow.Author.Tests.{eqb-true, eqb-false, eq-eqb, ltb-true, ltb-false}
use Rattle.survey.specs.Limits.{group_limit}
use Rattle.survey.specs.Survey.{Survey}
use Rattle.survey.specs.Sets.{Set, In}
use Rattle.survey.specs.Balance.{Amounts, lack}
use Rattle.survey.specs.Words.{marked_set, amounts_of}
use Rattle.survey.specs.Rounds.{Weights}
use Rattle.survey.specs.Draining.{Obeys, Drains}
use Rattle.bits.specs.Bits.{bit}
use Rattle.flow.specs.Links.{bare}
use Rattle.flow.specs.Copies.{copied, Copy, Copied, Taken}
use Rattle.flow.specs.Ways.{Way, pays, gives_back, Ways, WaysFound}
use Rattle.flow.specs.Drains.{Hop, Begun, Others, Grew, Growing, SawHalf, Grown, Least, Drained, Placed, Growable, Seeable}
use Rattle.flow.proofs.LinkLaws.{bare_given}
use Rattle.flow.proofs.CopyLaws.{given_alike, alike_least}
use Rattle.flow.proofs.GrowLaws.{grew_on, grew_none, grew_growable}
use Rattle.flow.proofs.WayLaws.{ways_inside}

-- where the growing stands: the rows of the groups before place i of the order are seen to
pub record Growth (n : ℕ) (ways others t order : List ℕ) (c : ℕ) (others' t' order' : List ℕ) (c' i : ℕ) : Type 0 where
  pub grew : Grew n ways t order c t' order' c'
  pub reached : i ≤ c'
  pub seen : (j : ℕ) → j < i → (g : ℕ) → g < n → bit ways (get_or order' j 0) g ≡ 1 → get_or t' g 0 ≡ 1
  pub who : Others n t' others'
  pub long : length others' ≡ length others

pub growth_begins : {n c : ℕ} {ways others t order : List ℕ} → Growing n ways others t order c → Growth n ways others t order c others t order c 0
growth_begins p =
    record {
      grew = grew_none p.growable.placed;
      reached = omega arith;
      seen = λ j h. absurd (omega arith);
      who = p.who;
      long = refl;
    }

-- what is so of each half of a row is so of the row
both_halves : (P : ℕ → Type 0) (g : ℕ) → g < 128 → ((i : ℕ) → i < 64 → P (64 * 0 + i)) → ((i : ℕ) → i < 64 → P (64 * 1 + i)) → P g
both_halves P g few low high = go (dec_lt g 64)
  where
    go : Dec (g < 64) → P g
    go (yes l) = let is : 64 * 0 + g ≡ g = omega arith in rw is at (low g l)
    go (no d) = let is : 64 * 1 + (g - 64) ≡ g = omega arith in rw is at (high (g - 64) (omega arith))

-- the group at place i, and the two halves of its row
module _
    {n c₀ c i : ℕ} {ways others₀ t₀ order₀ others t order : List ℕ} (p : Growing n ways others₀ t₀ order₀ c₀)
    (w : Growth n ways others₀ t₀ order₀ c₀ others t order c i) (l : i < c) where
  pub see_first : Seeable n (get_or order i 0) 0 ways others t order c
  see_first =
      record {
        growing = record { growable = grew_growable p.growable w.grew; who = w.who; room = omega (arith, p.room, w.long) };
        below = w.grew.placed.group i l;
        joined = w.grew.placed.marked i l;
        which = omega arith;
      }

  module _ {others₁ t₁ order₁ : List ℕ} {c₁ : ℕ} (a : SawHalf n (get_or order i 0) 0 ways others t order c others₁ t₁ order₁ c₁) where
    pub see_second : Seeable n (get_or order i 0) 1 ways others₁ t₁ order₁ c₁
    see_second =
        record {
          growing =
              record {
                growable = grew_growable see_first.growing.growable a.grew;
                who = a.who;
                room = omega (arith, see_first.growing.room, a.long);
              };
          below = see_first.below;
          joined = a.grew.marks _ see_first.joined;
          which = omega arith;
        }

    pub growth_on :
        {others₂ t₂ order₂ : List ℕ} {c₂ : ℕ} → SawHalf n (get_or order i 0) 1 ways others₁ t₁ order₁ c₁ others₂ t₂ order₂ c₂
        → Growth n ways others₀ t₀ order₀ c₀ others₂ t₂ order₂ c₂ (i + 1)
    growth_on {others₂} {t₂} {order₂} {c₂} b =
        record {
          grew = grew_on w.grew step;
          reached = omega (arith, step.more);
          seen = λ j h g k. go j h g k (ℕ_discrete j i);
          who = b.who;
          long = b.long ∙ a.long ∙ w.long;
        }
      where
        step : Grew n ways t order c t₂ order₂ c₂
        step = grew_on a.grew b.grew

        now : (g : ℕ) → g < n → bit ways (get_or order i 0) g ≡ 1 → get_or t₂ g 0 ≡ 1
        now g k =
            both_halves (λ h. bit ways (get_or order i 0) h ≡ 1 → get_or t₂ h 0 ≡ 1) g (omega (arith, p.growable.few))
            (λ h m q. b.grew.marks _ (a.seen h m q)) (λ h m q. b.seen h m q)

        go : (j : ℕ) → j < i + 1 → (g : ℕ) → g < n → Dec (j ≡ i) → bit ways (get_or order₂ j 0) g ≡ 1 → get_or t₂ g 0 ≡ 1
        go j h g k (yes e) = rw (e, step.order_same i l) (now g k)
        go j h g k (no d) = rw (step.order_same j (omega arith)) (λ q. step.marks g (w.seen j (omega arith) g k q))

pub growth_done :
    {n c c' i : ℕ} {ways others t order others' t' order' : List ℕ} → c' ≤ i → Growth n ways others t order c others' t' order' c' i
    → Grown n ways t order c t' order' c'
growth_done {ways = ways} d w =
    record {
      grew = w.grew;
      closed =
          λ p g k l m q.
          let f = w.grew.placed.cover p k m in
          w.seen f.0 (omega (arith, f.1)) g l (ap (λ (x : ℕ). bit ways x g) f.2 ∙ q);
    }

-- ---- the rows have who can pay

-- each that joined can pay into one that joined before
pub grown_hops :
    {s : Survey} {x : Amounts} {ways t order t' order' : List ℕ} {c c' : ℕ} → Ways s x s.e ways → s.n ≤ group_limit
    → Grown s.n ways t order c t' order' c' → (i : ℕ) → c ≤ i → i < c' → Hop s x order' i
grown_hops v few w i h k =
    let r = w.grew.rows i h k in
    let f = v.sound _ _ (omega (arith, few, w.grew.placed.group i k)) r.has in
    record { link = f.0; within = f.1; earlier = r.earlier; before = r.before; way = f.2 }

-- ---- the least set

module _
    {n e c c' : ℕ} {ends ways la t₀ order₀ t order t' order' : List ℕ} {x : Amounts} (b : Begun n la t₀ order₀ t order c)
    (v : Ways (copied n e ends) x e ways) (net : Copy n e ends) (w : Grown n ways t order c t' order' c') where
  -- each that has joined is in every set that holds the lacks and obeys the rules: by the place at which it joined
  within : (U : Set) → Obeys (copied n e ends) x U → ((g : ℕ) → g < n → 0 < get_or la g 0 → In U g) → (m i : ℕ) → i < m → i < c' → In U (get_or order' i 0)
  within U o h zero i l k = absurd (omega arith)
  within U o h (suc m) i l k = go (ltb i c) refl (λ j p q. within U o h m j p q)
    where
      hops : {k g p : ℕ} → k < e → Way (copied n e ends) x k g p → In U p → In U g
      hops {k} link (pays z y) u = rw z at (o.forth k link (rw y u))
      hops {k} link (gives_back z y a) u = rw z at (o.back k link a (rw y u))

      go : (q : Bool) → ltb i c ≡ q → ((j : ℕ) → j < m → j < c' → In U (get_or order' j 0)) → In U (get_or order' i 0)
      go true q earlier =
          let early = ltb-true i c q in
          rw (w.grew.order_same i early) (h _ (b.placed.group i early) (b.starts i early))
      go false q earlier =
          let hop = grown_hops v net.few_groups w i (ltb-false i c q) k in
          hops hop.within hop.way (earlier hop.earlier (omega (arith, hop.before)) (omega (arith, hop.before)))

  -- where p has joined, whoever can pay into it has
  closes : (k g p : ℕ) → k < e → p < n → g < n → Way (copied n e ends) x k g p → In (marked_set t') p → In (marked_set t') g
  closes k g p l below group way m = eq-eqb (get_or t' g 0) 1 (w.closed p g below group (eqb-true (get_or t' p 0) 1 m) (v.complete k g p l way))

  pub grown_least : Least (copied n e ends) x (λ g. get_or la g 0) (marked_set t')
  grown_least =
      record {
        obeys =
            record {
              forth = λ k l m. closes k _ _ l (net.from k l) (net.to k l) (pays refl refl) m;
              back = λ k l o m. closes k _ _ l (net.to k l) (net.from k l) (gives_back refl refl o) m;
            };
        holds = λ g l p. eq-eqb (get_or t' g 0) 1 (w.grew.marks g (b.holds g l p));
        least =
            λ U o h.
            record {
              has =
                  λ g l m.
                  let f = w.grew.placed.cover g l (eqb-true (get_or t' g 0) 1 m) in
                  rw f.2 at (within U o h c' f.0 f.1 f.1);
            };
      }

-- Where the lacks are those of the balances, the least set is the one that drains.
pub least_drains :
    {s : Survey} {w : Weights} {x : Amounts} {la : ℕ → ℕ} {T : Set} → ((g : ℕ) → g < s.n → la g ≡ lack s w x g) → Least s x la T → Drains s w x T
least_drains {s} {w} {x} {la} is d =
    record {
      obeys = d.obeys;
      lacks = record { holds = λ g l h. d.holds g l (omega (arith, is g l)) };
      least = λ U o h. d.least U o (λ g l p. h.holds g l (omega (arith, is g l)));
    }

pub drained_law :
    {n e : ℕ} {links amounts la ends₀ ends x₀ x ways₀ ways t₀ order₀ t order t' order' : List ℕ} {c c' : ℕ} → Copied e links ends₀ ends → Copy n e ends
    → Taken e amounts x₀ x
    → WaysFound n e ends x ways₀ ways → Begun n la t₀ order₀ t order c → Grown n ways t order c t' order' c' → Drained n e links amounts la t₀ t'
drained_law o net y v b w =
    record {
      least = λ s g. alike_least (given_alike g o (λ k l. sym (y.at k l))) (grown_least b v.found net w);
      bits = w.grew.placed.bits;
      rest = λ g h. w.grew.rest g h ∙ b.rest g h;
      long = w.grew.t_long ∙ b.t_long;
    }

-- Marks that are 0 or 1 are equal where they are 1 together.
pub bits_one : {u v : ℕ} → u ≤ 1 → v ≤ 1 → eqb u 1 ≡ eqb v 1 → u ≡ v
bits_one {u} {v} hu hv e = go (eqb u 1) refl
  where
    go : (r : Bool) → eqb u 1 ≡ r → u ≡ v
    go true r = eqb-true u 1 r ∙ sym (eqb-true v 1 (sym e ∙ r))
    go false r =
        let nu : u ≡ 1 → ⊥ = eqb-false u 1 r in
        let nv : v ≡ 1 → ⊥ = eqb-false v 1 (sym e ∙ r) in
        omega arith

-- Two results that are allowed are equal.
pub drained_one : {n e : ℕ} {links amounts la t a b : List ℕ} → Drained n e links amounts la t a → Drained n e links amounts la t b → a ≡ b
drained_one {n} {e} {links} {amounts} {la} {t} {a} {b} p q =
    ext_get_or 0 a b (p.long ∙ sym q.long) (λ i l. go i (ltb i n) refl)
  where
    x : Least (bare n e links) (amounts_of amounts) (λ g. get_or la g 0) (marked_set a)
    x = p.least (bare n e links) (bare_given n e links)

    y : Least (bare n e links) (amounts_of amounts) (λ g. get_or la g 0) (marked_set b)
    y = q.least (bare n e links) (bare_given n e links)

    together : (u v : Bool) → (u ≡ true → v ≡ true) → (v ≡ true → u ≡ true) → u ≡ v
    together true v f g = sym (f refl)
    together false true f g = g refl
    together false false f g = refl

    go : (i : ℕ) (r : Bool) → ltb i n ≡ r → get_or a i 0 ≡ get_or b i 0
    go i true r =
        let l = ltb-true i n r in
        bits_one (p.bits i l) (q.bits i l)
        (together (marked_set a i) (marked_set b i) (λ m. (x.least (marked_set b) y.obeys y.holds).has i l m) (λ m. (y.least (marked_set a) x.obeys x.holds).has i l m))
    go i false r = let l = ltb-false i n r in p.rest i l ∙ sym (q.rest i l)

-- what growing along the rows asks
pub ways_growable :
    {n e c : ℕ} {ends ways t order : List ℕ} {x : Amounts} → Copy n e ends → Ways (copied n e ends) x e ways → 2 * n ≤ length ways → Placed n t order c
    → n ≤ length t → n ≤ length order → Growable n ways t order c
ways_growable net v long placed t_long order_long =
    record {
      few = net.few_groups;
      ways_long = long;
      inside = ways_inside net v;
      placed = placed;
      t_long = t_long;
      order_long = order_long;
    }

-- ---- what a queue leaves, of as many groups and in the lists that it gives back

pub grown_as :
    {n n' c c' : ℕ} {ways t order t' order' t'' order'' : List ℕ} → n' ≡ n → t'' ≡ t' → order'' ≡ order' → Grown n' ways t order c t' order' c'
    → Grown n ways t order c t'' order'' c'
grown_as x y z w = rw (← x, y, z) w
