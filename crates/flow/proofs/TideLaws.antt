-- Laws of a whole wave: what has grown can be gone back through; and where nobody sent, the set that drains is dry.
use Prim.Native.Nat.{ℕ, ◌≤◌, ◌<◌}
use native.Mathlib.Omega.{arith}
use mathlib.Core.Path.{◌≡◌, refl, sym, ◌∙◌}
use mathlib.Core.Bool.{Bool, true, false, not}
use mathlib.Core.Logic.{◌⊎◌}
use mathlib.Core.List.{List}
use lib.ListN.{length, get_or}
use lib.Dec.{eqb, ltb}
use borrow.Author.Tests.{eqb-true, eqb-false, ltb-true, ltb-false}
use Rattle.survey.specs.Survey.{Survey}
use Rattle.survey.specs.Sets.{Set, Same, outside}
use Rattle.survey.specs.Balance.{Amounts}
use Rattle.survey.specs.Words.{marked_set}
use Rattle.survey.specs.Sound.{Inside}
use Rattle.flow.specs.Chains.{head_at, next_at, Chainable, Chained}
use Rattle.flow.specs.Drains.{Begun, Grown, Least}
use Rattle.flow.specs.Sends.{Chart}
use Rattle.flow.specs.Waves.{Apartable, unmarked, Remarked, SetApart, Pourable, Still, Poured, Wavable, Dry, WavedOnce, WavedAll, WavesStart, WavesEnd, WavesAsk, Waved}
use Rattle.flow.proofs.JoinLaws.{placed_most}
use Rattle.flow.proofs.DrainLaws.{grown_hops, grown_least}
use Rattle.flow.proofs.ChainLaws.{other_head}
use Rattle.flow.proofs.CopyLaws.{end_small, end_below}
use Rattle.flow.proofs.SafeLaws.{net_inside}
use Rattle.flow.proofs.ApartLaws.{apart_coming, apart_remarked, apart_ahead, apart_began}
use Rattle.flow.proofs.FlowLaws.{lack_no_excess, ran_none, ran_on, afloat_after}

-- The least set is one as far as the survey's groups go.
pub least_same : {s : Survey} {x : Amounts} {la : ℕ → ℕ} {T T' : Set} → Inside s → Same s T T' → Least s x la T → Least s x la T'
least_same i q d =
    record {
      obeys =
          record {
            forth = λ k l m. sym (q.at _ (i.to k l)) ∙ d.obeys.forth k l (q.at _ (i.from k l) ∙ m);
            back = λ k l p m. sym (q.at _ (i.from k l)) ∙ d.obeys.back k l p (q.at _ (i.to k l) ∙ m);
          };
      holds = λ g l p. sym (q.at g l) ∙ d.holds g l p;
      least = λ U o h. record { has = λ g l m. (d.least U o h).has g l (q.at g l ∙ m) };
    }

-- one change of marks after the other
remarked_on : {n : ℕ} {t t' t'' : List ℕ} → Remarked n t t' → Remarked n t' t'' → Remarked n t t''
remarked_on x y = record { same = λ g. y.same g ∙ x.same g; rest = λ g h. y.rest g h ∙ x.rest g h; long = y.long ∙ x.long }

-- a mark that is 0 or 1 is 1 where it isn't 0
bit : {u : ℕ} → u ≤ 1 → eqb u 1 ≡ not (eqb u 0)
bit {u} h = go (eqb u 1) refl
  where
    go : (t : Bool) → eqb u 1 ≡ t → eqb u 1 ≡ not (eqb u 0)
    go true q = let one : u ≡ 1 = eqb-true u 1 q in rw one
    go false q =
        let other : u ≡ 1 → ⊥ = eqb-false u 1 q in
        let none : u ≡ 0 = omega arith in
        rw none

module _ {n e c : ℕ} {ends amounts ex la ways t₀ order₀ t₁ order₁ : List ℕ} (chart : Chart n e ends) (p : Wavable n e ends amounts ex la ways t₀ order₀)
    (b : Begun n la t₀ order₀ t₁ order₁ c) where
  module _ {t₂ order₂ : List ℕ} {c' : ℕ} (w : Grown n ways t₁ order₁ c t₂ order₂ c') where
    starts : (j : ℕ) → j < c → 0 < get_or la (get_or order₂ j 0) 0
    starts j h = rw (w.grew.order_same j h) (b.starts j h)

    pub wave_apartable : Apartable t₂ order₂ c
    wave_apartable =
        record {
          few = omega (arith, placed_most b.placed, chart.net.few_groups);
          order_long = omega (arith, placed_most b.placed, b.order_long, w.grew.order_long, p.order_long);
          group = λ i h. omega (arith, w.grew.placed.group i (omega (arith, w.grew.more)), chart.net.few_groups);
          within = λ i h. omega (arith, w.grew.placed.group i (omega (arith, w.grew.more)), b.t_long, w.grew.t_long, p.ask.t_long);
        }

    pub wave_pourable : {t : List ℕ} → SetApart t₂ order₂ c t → Pourable n e ends amounts ex la ways t order₂ c c'
    wave_pourable a =
        record {
          afloat = p.ask.afloat;
          rows = p.ask.rows;
          more = w.grew.more;
          most = placed_most w.grew.placed;
          group = w.grew.placed.group;
          once = w.grew.placed.once;
          starts = starts;
          hops = grown_hops p.ask.rows.right chart.net.few_groups w;
          began = apart_began w.grew.placed w.grew.more a la starts;
          marked = apart_coming w.grew.placed w.grew.more a;
          ahead = apart_ahead w.grew.placed w.grew.more a;
          t_long = omega (arith, a.long, b.t_long, w.grew.t_long, p.ask.t_long);
          order_long = omega (arith, b.order_long, w.grew.order_long, p.order_long);
        }

    module _ {amounts' ex' la' ways' t t₃ : List ℕ} {r : Bool} (a : SetApart t₂ order₂ c t) (v : Poured n e ends amounts ex la ways t order₂ c c' amounts' ex' la' ways' t₃ r) where
      remarked : Remarked n t₂ t₃
      remarked = remarked_on (apart_remarked w.grew.placed w.grew.more a) v.remarked

      drains : (g : ℕ) → g < n → marked_set t₂ g ≡ outside (unmarked t₃) g
      drains g l = rw (remarked.same g) (bit (w.grew.placed.bits g l))

      dry : Still amounts ex la order₂ c c' amounts' ex' la' → Dry n e ends amounts ex la t₃
      dry s =
          record {
            least = least_same (net_inside chart.net) (record { at = drains }) (grown_least b p.ask.rows.right chart.net w);
            dry = λ g l m. none g l (eqb-true (get_or t₂ g 0) 1 (drains g l ∙ m));
          }
        where
          none : (g : ℕ) → g < n → get_or t₂ g 0 ≡ 1 → get_or ex g 0 ≡ 0
          none g l m = let f = w.grew.placed.cover g l m in rw f.2 at (go f.0 f.1 (ltb f.0 c) refl)
            where
              go : (j : ℕ) → j < c' → (q : Bool) → ltb j c ≡ q → get_or ex (get_or order₂ j 0) 0 ≡ 0
              go j k true q = lack_no_excess p.ask.afloat (get_or order₂ j 0) (w.grew.placed.group j k) (starts j (ltb-true j c q))
              go j k false q = s.dry j (ltb-false j c q) k

      pub wave_once : WavedOnce n e ends amounts ex la ways t₀ order₀ amounts' ex' la' ways' t₃ order₂ r
      wave_once =
          record {
            waved =
                record {
                  ran = v.ran;
                  rest = λ g h. remarked.rest g h ∙ w.grew.rest g h ∙ b.rest g h;
                  long = remarked.long ∙ w.grew.t_long ∙ b.t_long;
                };
            order_long = w.grew.order_long ∙ b.order_long;
            done = λ z. let s = v.still z in rw (s.amounts_same, s.ex_same, s.la_same) (dry s);
            fell = v.fell;
          }

-- ---- wave after wave

pub waved_none : {n e : ℕ} {ends amounts ex la ways t : List ℕ} → Waved n e ends amounts ex la ways t amounts ex la ways t
waved_none = record { ran = ran_none; rest = λ g h. refl; long = refl }

pub waved_on :
    {n e : ℕ} {ends amounts ex la ways t amounts' ex' la' ways' t' amounts'' ex'' la'' ways'' t'' : List ℕ} → Waved n e ends amounts ex la ways t amounts' ex' la' ways' t'
    → Waved n e ends amounts' ex' la' ways' t' amounts'' ex'' la'' ways'' t'' → Waved n e ends amounts ex la ways t amounts'' ex'' la'' ways'' t''
waved_on a b = record { ran = ran_on a.ran b.ran; rest = λ g h. b.rest g h ∙ a.rest g h; long = b.long ∙ a.long }

pub ask_after :
    {n e : ℕ} {ends amounts ex la ways t amounts' ex' la' ways' t' : List ℕ} → WavesAsk n e ends amounts ex la ways t
    → Waved n e ends amounts ex la ways t amounts' ex' la' ways' t' → WavesAsk n e ends amounts' ex' la' ways' t'
ask_after p w =
    record {
      afloat = afloat_after p.afloat w.ran.flowed;
      rows = w.ran.rows p.rows;
      t_long = omega (arith, w.long, p.t_long);
    }

-- ---- with what the waves go by

module _ {n e : ℕ} {ends amounts ex la t : List ℕ} (p : WavesStart n e ends amounts ex la t) where
  pub settle_chainable : {end : ℕ} {chains : List ℕ} → (end ≡ 0) ⊎ (end ≡ 1) → next_at 2 0 ≤ length chains → ((g : ℕ) → g < n → get_or chains (head_at end g) 0 ≡ e)
      → Chainable ends n e end chains
  settle_chainable {end} which long empty =
      record {
        few_groups = p.course.chart.net.few_groups;
        few_links = p.course.chart.net.few_links;
        small = end_small which;
        ends_long = p.course.chart.net.ends_long;
        long = long;
        below = end_below p.course.chart.net which;
        empty = empty;
      }

  module _ {chains₀ chains₁ : List ℕ} (first : Chained ends n e 0 chains₀ chains₁) where
    -- by the other end the chains are empty still
    pub settle_empty : ((i : ℕ) → i < next_at 0 0 → get_or chains₀ i 0 ≡ e) → (g : ℕ) → g < n → get_or chains₁ (head_at 1 g) 0 ≡ e
    settle_empty empty g l = first.else (head_at 1 g) (other_head (omega (arith, p.course.chart.net.few_groups)))
        ∙ empty (head_at 1 g) (omega (arith, p.course.chart.net.few_groups))

pub settled : {n e : ℕ} {ends amounts ex la ways t amounts' ex' la' ways' t' : List ℕ} → WavedAll n e ends amounts ex la ways t amounts' ex' la' ways' t'
    → WavesEnd n e ends amounts ex la t amounts' ex' la' t'
settled w = record { flowed = w.waved.ran.flowed; rest = w.waved.rest; long = w.waved.long; done = w.done }
