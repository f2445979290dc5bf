-- Laws of sends one after the other: the turn of one group.
use Prim.Native.Nat.{ℕ, ◌+◌, ◌-◌, ◌≤◌, ◌<◌}
use native.Mathlib.Omega.{arith}
use mathlib.Core.Path.{◌≡◌, refl, sym, ◌∙◌}
use mathlib.Core.Logic.{◌⊎◌, inl, inr}
use mathlib.Core.List.{List}
use mathlib.Core.Bool.{Bool, true, false}
use lib.ListN.{get_or}
use lib.Dec.{eqb, ltb}
use borrow.Author.Tests.{eqb-true, eqb-false, ltb-true, ltb-false}
use Rattle.survey.proofs.SumOrder.{sum_le}
use Rattle.flow.specs.Copies.{end_in, copied, flowing}
use Rattle.flow.specs.Chains.{IsNext, head_at, next_at, Index}
use Rattle.flow.specs.Ways.{Way, pays, gives_back, Noted}
use Rattle.flow.specs.Sends.{Chart, Afloat, Course}
use Rattle.flow.specs.Waves.{Flowed, Rows, Ran, lacks, Coming, Rises, Passed, fallen, full, onward, Offerable, Offered, kept, took, least_for}
use Rattle.flow.specs.Waves.{Spillable, Passage, Spilled, none, some, Turnable, Turned, rests, sent}
use Rattle.flow.proofs.CopyLaws.{other_end, end_below}
use Rattle.flow.proofs.WayLaws.{noted_ways, noted_length}
use Rattle.flow.proofs.SafeLaws.{Sent, sendable, sends_sent}

-- ---- one flowing after the other

pub flow_none : {n e : ℕ} {ends amounts ex la : List ℕ} → Flowed n e ends amounts ex la amounts ex la
flow_none =
    record {
      keeps = λ w b. b;
      falls = λ g. omega arith;
      amounts_long = refl;
      ex_long = refl;
      la_long = refl;
      ex_rest = λ g h. refl;
      la_rest = λ g h. refl;
    }

pub flow_on :
    {n e : ℕ} {ends amounts ex la amounts' ex' la' amounts'' ex'' la'' : List ℕ} → Flowed n e ends amounts ex la amounts' ex' la'
    → Flowed n e ends amounts' ex' la' amounts'' ex'' la'' → Flowed n e ends amounts ex la amounts'' ex'' la''
flow_on a b =
    record {
      keeps = λ w h. b.keeps w (a.keeps w h);
      falls = λ g. omega (arith, a.falls g, b.falls g);
      amounts_long = b.amounts_long ∙ a.amounts_long;
      ex_long = b.ex_long ∙ a.ex_long;
      la_long = b.la_long ∙ a.la_long;
      ex_rest = λ g h. b.ex_rest g h ∙ a.ex_rest g h;
      la_rest = λ g h. b.la_rest g h ∙ a.la_rest g h;
    }

pub afloat_after :
    {n e : ℕ} {ends amounts ex la amounts' ex' la' : List ℕ} → Afloat n e ends amounts ex la → Flowed n e ends amounts ex la amounts' ex' la' → Afloat n e ends amounts' ex' la'
afloat_after c f =
    record {
      amounts_long = omega (arith, c.amounts_long, f.amounts_long);
      ex_long = omega (arith, c.ex_long, f.ex_long);
      la_long = omega (arith, c.la_long, f.la_long);
      safe =
          record {
            weights = c.safe.weights;
            balanced = f.keeps c.safe.weights c.safe.balanced;
            lean = λ g l. omega (arith, c.safe.lean g l, f.falls g);
            small = c.safe.small;
          };
    }

pub course_after :
    {n e : ℕ} {ends amounts ex la amounts' ex' la' : List ℕ} → Course n e ends amounts ex la → Flowed n e ends amounts ex la amounts' ex' la' → Course n e ends amounts' ex' la'
course_after c f = record { chart = c.chart; afloat = afloat_after c.afloat f }

pub ran_none : {n e : ℕ} {ends amounts ex la ways : List ℕ} → Ran n e ends amounts ex la ways amounts ex la ways
ran_none = record { flowed = flow_none; rows = λ r. r; long = refl }

pub ran_on :
    {n e : ℕ} {ends amounts ex la ways amounts' ex' la' ways' amounts'' ex'' la'' ways'' : List ℕ} → Ran n e ends amounts ex la ways amounts' ex' la' ways'
    → Ran n e ends amounts' ex' la' ways' amounts'' ex'' la'' ways'' → Ran n e ends amounts ex la ways amounts'' ex'' la'' ways''
ran_on a b = record { flowed = flow_on a.flowed b.flowed; rows = λ r. b.rows (a.rows r); long = b.long ∙ a.long }

-- the total lack does not rise
pub lacks_fall : {n e : ℕ} {ends amounts ex la amounts' ex' la' : List ℕ} → Flowed n e ends amounts ex la amounts' ex' la' → lacks n la' ≤ lacks n la
lacks_fall {n} {la = la} {la' = la'} f = sum_le n (λ g. get_or la' g 0) (λ g. get_or la g 0) (λ g l. f.falls g)

-- a group with a lack has no excess
pub lack_no_excess : {n e : ℕ} {ends amounts ex la : List ℕ} → Afloat n e ends amounts ex la → (g : ℕ) → g < n → 0 < get_or la g 0 → get_or ex g 0 ≡ 0
lack_no_excess c g l p = omega (arith, c.safe.balanced.above g l, c.safe.balanced.below g l)

-- ---- what group g has sent, to groups that are still to come

-- once something has passed it stays so, whatever more is sent
passed_on :
    {n e : ℕ} {ends amounts₀ ex₀ la₀ amounts ex la amounts' ex' la' : List ℕ} (t : List ℕ) → Flowed n e ends amounts₀ ex₀ la₀ amounts ex la
    → Flowed n e ends amounts ex la amounts' ex' la' → Passed n la₀ ex la t → Passed n la ex' la' t → Passed n la₀ ex' la' t
passed_on t f₀ f (fallen a) b = fallen (omega (arith, lacks_fall f))
passed_on t f₀ f (full h l m z) b = full h l m (omega (arith, f.falls h))
passed_on t f₀ f (onward a i k u v) (fallen b) = fallen (omega (arith, lacks_fall f₀))
passed_on t f₀ f (onward a i k u v) (full h l m z) = full h l m z
passed_on t f₀ f (onward a i k u v) (onward b h l m x) = onward (λ j. b j ∙ a j) h l m x

pub spilled_ran :
    {n e m end g : ℕ} {ends amounts ex la ways amounts' ex' la' ways' t : List ℕ} → Spilled n e m end g ends amounts ex la ways t amounts' ex' la' ways'
    → Ran n e ends amounts ex la ways amounts' ex' la' ways'
spilled_ran (none dry) = ran_none
spilled_ran (some r up x) = r

-- ---- along a chain of g, by the end at g; the other end is at 1 - end

-- what link k, at whose other end is q, makes of the state: nothing, since it takes nothing; or something was sent
data Step (n e k end g q : ℕ) (ends amounts ex la ways t : List ℕ) : List ℕ → List ℕ → List ℕ → List ℕ → Type 0 where
  stays : (Coming t q → least_for end ≤ flowing amounts k → ⊥) → Step n e k end g q ends amounts ex la ways t amounts ex la ways
  goes :
      {amounts' ex' la' ways' : List ℕ} → Ran n e ends amounts ex la ways amounts' ex' la' ways' → Rises g ends amounts amounts' → Passed n la ex' la' t
      → Step n e k end g q ends amounts ex la ways t amounts' ex' la' ways'

-- the walk along the chain, at link k
pub record Spilling (n e end g : ℕ) (ends amounts₀ ex₀ la₀ ways₀ t amounts ex la ways : List ℕ) (k : ℕ) : Type 0 where
  pub spilled : Spilled n e k end g ends amounts₀ ex₀ la₀ ways₀ t amounts ex la ways
  pub within : k ≤ e
  pub hit : k < e → end_in ends end k ≡ g

module _ {n e end g : ℕ} {ends amounts₀ ex₀ la₀ ways₀ t : List ℕ} (chart : Chart n e ends) (p : Spillable n e end g ends amounts₀ ex₀ la₀ ways₀ t) where
  pub spill_begins : {chains : List ℕ} → Index n e end (end_in ends end) chains
      → Spilling n e end g ends amounts₀ ex₀ la₀ ways₀ t amounts₀ ex₀ la₀ ways₀ (get_or chains (head_at end g) 0)
  spill_begins x =
      let h = x.heads g p.below in
      record { spilled = none (λ pos j l x. h.first j (omega arith) l x.hit); within = h.within; hit = h.hit }

  module _ {amounts ex la ways : List ℕ} {k q : ℕ} (w : Spilling n e end g ends amounts₀ ex₀ la₀ ways₀ t amounts ex la ways k) (l : k < e) (z : q ≡ end_in ends (1 - end) k) where
    course : Course n e ends amounts ex la
    course = record { chart = chart; afloat = afloat_after p.afloat (spilled_ran w.spilled).flowed }

    rows : Rows n e ends amounts ways
    rows = (spilled_ran w.spilled).rows p.rows

    q_below : q < n
    q_below = rw z (end_below chart.net (other_end p.which) k l)

    -- the link takes something
    way : least_for end ≤ flowing amounts k → Way (copied n e ends) (flowing amounts) k g q
    way least = go p.which
      where
        go : (end ≡ 0) ⊎ (end ≡ 1) → Way (copied n e ends) (flowing amounts) k g q
        go (inl h) = gives_back (rw h at (w.hit l)) (sym (rw h at z)) (rw h at least)
        go (inr h) = pays (rw h at (w.hit l)) (sym (rw h at z))

    pub spill_offerable : Offerable k g q (least_for end) ends amounts ex la ways t
    spill_offerable =
        record {
          q_within = omega (arith, q_below, p.t_long);
          amount_within = omega (arith, course.afloat.amounts_long);
          link_within = omega (arith, chart.net.ends_long);
          sendable = λ m least. sendable course l p.t_long (way least);
          notable =
              record {
                few = omega (arith, chart.net.from k l, chart.net.few_groups);
                room = omega (arith, chart.net.to k l, rows.long);
              };
        }

    -- what was sent through the link, and noted
    took_ran :
        {amounts' ex' la' ways' : List ℕ} → Sent n e k ends amounts ex la t amounts' ex' la' g → Noted (end_in ends 0 k) (end_in ends 1 k) (flowing amounts' k) ways ways'
        → Ran n e ends amounts ex la ways amounts' ex' la' ways'
    took_ran x d =
        record {
          flowed = x.flowed;
          rows = λ r. record { right = noted_ways chart.net chart.no_cycle chart.once l r.long x.same r.right d; long = omega (arith, r.long, noted_length d) };
          long = noted_length d;
        }

    -- the links before the next one of the chain are those before k, and k
    pub spill_on :
        {chains amounts' ex' la' ways' : List ℕ} → Index n e end (end_in ends end) chains → 0 < get_or ex g 0
        → Offered k g q (least_for end) ends amounts ex la ways t amounts' ex' la' ways'
        → Spilling n e end g ends amounts₀ ex₀ la₀ ways₀ t amounts' ex' la' ways' (get_or chains (next_at end k) 0)
    spill_on {chains} index pos o =
        record { spilled = go w.spilled (step o); within = after.within; hit = λ h. after.hit h ∙ w.hit l }
      where
        after : IsNext e (end_in ends end) (end_in ends end k) (k + 1) (get_or chains (next_at end k) 0)
        after = index.nexts k l

        -- nobody takes anything before the next link of the chain
        dry_before :
            ((j : ℕ) → j < k → Passage end g ends amounts₀ t j → ⊥) → (Coming t q → least_for end ≤ flowing amounts₀ k → ⊥)
            → (j : ℕ) → j < get_or chains (next_at end k) 0 → Passage end g ends amounts₀ t j → ⊥
        dry_before before here j h x = at (ltb j k) refl (eqb j k) refl
          where
            at : (a : Bool) → ltb j k ≡ a → (b : Bool) → eqb j k ≡ b → ⊥
            at true u b v = before j (ltb-true j k u) x
            at false u true v =
                let same : j ≡ k = eqb-true j k v in
                here (rw z (rw same at x.coming)) (rw same at x.least)
            at false u false v =
                let other : j ≡ k → ⊥ = eqb-false j k v in
                after.first j (omega (arith, ltb-false j k u)) h (x.hit ∙ sym (w.hit l))

        step : {amounts' ex' la' ways' : List ℕ} → Offered k g q (least_for end) ends amounts ex la ways t amounts' ex' la' ways'
            → Step n e k end g q ends amounts ex la ways t amounts' ex' la' ways'
        step (kept shut) = stays shut
        step (took m least s d) = let x = sends_sent course l (way least) m s in goes (took_ran x d) x.rises (x.passed pos)

        go :
            {amounts ex la ways amounts' ex' la' ways' : List ℕ} → Spilled n e k end g ends amounts₀ ex₀ la₀ ways₀ t amounts ex la ways
            → Step n e k end g q ends amounts ex la ways t amounts' ex' la' ways'
            → Spilled n e (get_or chains (next_at end k) 0) end g ends amounts₀ ex₀ la₀ ways₀ t amounts' ex' la' ways'
        go (none dry) (stays shut) = none (λ pos. dry_before (dry pos) shut)
        go (none dry) (goes r up x) = some r up x
        go (some r up x) (stays shut) = some r up x
        go (some r up x) (goes r' up' x') = some (ran_on r r') (λ j h. omega (arith, up j h, up' j h)) (passed_on t r.flowed r'.flowed x x')

  -- it ends with nothing left, or with the last link
  pub spill_spent : {amounts ex la ways : List ℕ} {k : ℕ} → get_or ex g 0 ≡ 0 → Spilling n e end g ends amounts₀ ex₀ la₀ ways₀ t amounts ex la ways k
      → Spilled n e e end g ends amounts₀ ex₀ la₀ ways₀ t amounts ex la ways
  spill_spent spent w = go spent w.spilled
    where
      go : {amounts ex la ways : List ℕ} {k : ℕ} → get_or ex g 0 ≡ 0 → Spilled n e k end g ends amounts₀ ex₀ la₀ ways₀ t amounts ex la ways
          → Spilled n e e end g ends amounts₀ ex₀ la₀ ways₀ t amounts ex la ways
      go nothing (none dry) = none (λ pos. absurd (omega arith))
      go nothing (some r up x) = some r up x

-- ---- the turn

module _ {n e g : ℕ} {ends amounts ex la ways t : List ℕ} (c : Turnable n e g ends amounts ex la ways t) where
  module _ {amounts' ex' la' ways' : List ℕ} (first : Spilled n e e 0 g ends amounts ex la ways t amounts' ex' la' ways') where
    pub turn_back : Spillable n e 1 g ends amounts' ex' la' ways' t
    turn_back =
        let r = spilled_ran first in
        record { afloat = afloat_after c.afloat r.flowed; rows = r.rows c.rows; below = c.below; which = inr refl; t_long = c.t_long }

  -- The link through which it can pay is one of the two chains, so something was sent.
  pub turn_sent :
      {amounts' ex' la' ways' amounts'' ex'' la'' ways'' : List ℕ} → 0 < get_or ex g 0 → Spilled n e e 0 g ends amounts ex la ways t amounts' ex' la' ways'
      → Spilled n e e 1 g ends amounts' ex' la' ways' t amounts'' ex'' la'' ways'' → Turned n e g ends amounts ex la ways t amounts'' ex'' la'' ways'' true
  turn_sent pos (none dry) (none dry') = absurd (go c.way)
    where
      go : Way (copied n e ends) (flowing amounts) c.k g c.p → ⊥
      go (pays to from) = dry' pos c.k c.link (record { hit = to; coming = rw from c.mark; least = omega arith })
      go (gives_back from to has) = dry pos c.k c.link (record { hit = from; coming = rw to c.mark; least = omega arith })
  turn_sent pos (none dry) (some r up x) = sent r up x
  turn_sent pos (some r up x) (none dry) = sent r up x
  turn_sent pos (some r up x) (some r' up' x') = sent (ran_on r r') (λ j h. omega (arith, up j h, up' j h)) (passed_on t r.flowed r'.flowed x x')

pub turned_ran :
    {n e g : ℕ} {r : Bool} {ends amounts ex la ways t amounts' ex' la' ways' : List ℕ} → Turned n e g ends amounts ex la ways t amounts' ex' la' ways' r
    → Ran n e ends amounts ex la ways amounts' ex' la' ways'
turned_ran (rests z) = ran_none
turned_ran (sent f up passed) = f
