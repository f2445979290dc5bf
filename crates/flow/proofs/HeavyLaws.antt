-- Laws of the heaviest set: what begins it is balanced, and what the waves end with proves it, for each survey that has the links.
use Prim.Native.Nat.{ℕ, ◌*◌, ◌≤◌, ◌<◌}
use native.Mathlib.Omega.{arith}
use mathlib.Core.Path.{◌≡◌, refl, sym, ap, ◌∙◌}
use mathlib.Core.Bool.{Bool, true, false, not}
use mathlib.Core.List.{List}
use lib.ListN.{length, get_or, replicate, get_or-replicate, length-replicate}
use lib.Seq.{ext_get_or}
use lib.Dec.{eqb, ltb}
use borrow.Author.Tests.{ltb-true, ltb-false}
use Rattle.survey.specs.Limits.{entry_bytes, link_limit}
use Rattle.survey.specs.Survey.{Survey, ComesTo, one, more, Cycle}
use Rattle.survey.specs.Sets.{In, Same, sum, only, total, outside}
use Rattle.survey.specs.Rounds.{Weights}
use Rattle.survey.specs.Balance.{Amounts, gets, pays, credit, debit}
use Rattle.survey.specs.Words.{amounts_of, marked_set}
use Rattle.survey.specs.Sound.{Inside}
use Rattle.survey.proofs.Sums.{sum_zero}
use Rattle.survey.proofs.SameSets.{heaviest_same}
use Rattle.survey.proofs.SameClaims.{SameAmounts, excess_same, lack_same}
use Rattle.survey.proofs.Unique as unique
use Rattle.survey.specs.Draining.{Drains}
use Rattle.survey.proofs.Draining.{drained_heaviest}
use Rattle.flow.specs.Links.{Given, bare}
use Rattle.flow.specs.Copies.{end_in, copied, flowing, Copyable, Copy, Copied, Puttable, Put}
use Rattle.flow.specs.Drains.{Net}
use Rattle.flow.specs.Sends.{Balanced, Course}
use Rattle.flow.specs.Waves.{unmarked, WavesStart, WavesEnd}
use Rattle.flow.specs.Heavy.{Halved, Flipped, Weighed, Weighable, Proves, Heavy}
use Rattle.flow.proofs.LinkLaws.{bare_given, given_from, given_to, given_below}
use Rattle.flow.proofs.CopyLaws.{Alike, given_alike, alike_least, alike_balanced, alike_no_cycle, net_copyable, net_copy}
use Rattle.flow.proofs.DrainLaws.{bits_one, least_drains}
use Rattle.flow.proofs.SafeLaws.{amount_small}
use Rattle.flow.proofs.FlowLaws.{course_after}
use Rattle.flow.proofs.TideLaws.{least_same}

-- ---- a survey that has the links has the balances too

module _ {s : Survey} {n e : ℕ} {l : List ℕ} (v : Given s n e l) where
  pub given_inside : Net n e l → Inside s
  given_inside net =
      record {
        from = λ k h. let b = given_below v h in rw (← v.groups, given_from v k b) (net.from k b);
        to = λ k h. let b = given_below v h in rw (← v.groups, given_to v k b) (net.to k b);
      }

  -- and the cycles
  bare_comes : {p q : ℕ} → ComesTo (bare n e l) p q → ComesTo s p q
  bare_comes (one k h f t) = one k (rw v.count at h) (given_from v k h ∙ f) (given_to v k h ∙ t)
  bare_comes (more k h c t) = more k (rw v.count at h) (rw (given_from v k h) (bare_comes c)) (given_to v k h ∙ t)

  pub bare_no_cycle : (Cycle s → ⊥) → Cycle (bare n e l) → ⊥
  bare_no_cycle none c = none (c.0, bare_comes c.1)

-- ---- what begins it

-- with no amounts a balance is a weight
none_balanced :
    (ends : List ℕ) {n e : ℕ} {plus minus p m : List ℕ} {x : Amounts} {w : Weights} → ((k : ℕ) → k < e → x k ≡ 0) → Halved n plus minus p m → Weighed n plus minus w
    → Balanced (copied n e ends) w x p m
unfolding gets pays
none_balanced ends {n} {e} {x = x} z h v =
    record {
      above = λ g l. omega (arith, h.above g l, v.plus_is g l, v.minus_is g l, none (end_in ends 0) g, none (end_in ends 1) g);
      below = λ g l. omega (arith, h.below g l, v.plus_is g l, v.minus_is g l, none (end_in ends 0) g, none (end_in ends 1) g);
    }
  where
    never : (t : Bool) → only t 0 ≡ 0
    never true = refl
    never false = refl

    none : (end : ℕ → ℕ) (g : ℕ) → sum e (λ k. only (eqb (end k) g) (x k)) ≡ 0
    none end g = sum_zero e (λ k. only (eqb (end k) g) (x k)) (λ k l. ap (only (eqb (end k) g)) (z k l) ∙ never (eqb (end k) g))

-- the weights that the lists give, and no other number besides
abbrev listed : List ℕ → List ℕ → Weights
listed plus minus = record { plus = λ g. get_or plus g 0; minus = λ g. get_or minus g 0 }

listed_weighed : {n : ℕ} (plus minus : List ℕ) → Weighed n plus minus (listed plus minus)
listed_weighed plus minus = record { plus_is = λ g l. refl; minus_is = λ g l. refl }

-- the working arrays as they begin
abbrev blank_ends : List ℕ
blank_ends = replicate (2 * link_limit) 0

abbrev blank_amounts : List ℕ
blank_amounts = replicate link_limit 0

pub heavy_copyable : {n e : ℕ} {links plus minus marks amounts : List ℕ} → Weighable n e links plus minus marks amounts → Copyable e links blank_ends
heavy_copyable c = net_copyable c.net (omega (arith, c.net.few_links, length-replicate {A = ℕ} (2 * link_limit) 0))

module _ {n e : ℕ} {links plus minus marks amounts ends p m : List ℕ} (c : Weighable n e links plus minus marks amounts) (o : Copied e links blank_ends ends)
    (h : Halved n plus minus p m) where
  none_yet : (k : ℕ) → k < e → get_or blank_amounts k 0 ≡ 0
  none_yet k l = get_or-replicate link_limit k 0 0 (omega (arith, c.net.few_links))

  heavy_copy : Copy n e ends
  heavy_copy = net_copy o c.net (heavy_copyable c).ends_long

  amounts_long : e ≤ length blank_amounts
  amounts_long = omega (arith, c.net.few_links, length-replicate {A = ℕ} link_limit 0)

  heavy_course : Course n e ends blank_amounts p m
  unfolding total
  heavy_course =
      record {
        chart =
            record {
              net = heavy_copy;
              no_cycle = alike_no_cycle {x = λ k. 0} (given_alike (bare_given n e links) o (λ k l. refl)) c.no_cycle;
              once = λ j k a b f t. c.once j k a b (sym (o.from j a) ∙ f ∙ o.from k b) (sym (o.to j a) ∙ t ∙ o.to k b);
            };
        afloat =
            record {
              amounts_long = amounts_long;
              ex_long = omega (arith, h.plus_long, c.plus_long);
              la_long = omega (arith, h.minus_long, c.minus_long);
              safe =
                  record {
                    weights = listed plus minus;
                    balanced = none_balanced ends none_yet h (listed_weighed plus minus);
                    lean = λ g l. omega (arith, h.below g l);
                    small = c.small;
                  };
            };
      }

  pub heavy_ask : WavesStart n e ends blank_amounts p m marks
  heavy_ask = record { course = heavy_course; t_long = c.marks_long }

  -- ---- what ends it

  pub heavy_puttable : {k : ℕ} {p' m' t a' : List ℕ} → k ≤ e → WavesEnd n e ends blank_amounts p m marks a' p' m' t → Puttable k a' amounts
  heavy_puttable l w =
      record {
        few = omega (arith, c.net.few_links);
        long = omega (arith, (course_after heavy_course w.flowed).afloat.amounts_long);
        room = omega (arith, c.amounts_long);
      }

  module _ {p' m' t a' marks' amounts' : List ℕ} (w : WavesEnd n e ends blank_amounts p m marks a' p' m' t) (x : Flipped n t marks') (y : Put e a' amounts amounts') where
    -- the marks are those of the groups that don't drain
    flips : (g : ℕ) → g < n → outside (unmarked t) g ≡ outside (marked_set marks') g
    flips g l = rw (x.at g l) (at (eqb (get_or t g 0) 0))
      where
        at : (b : Bool) → not b ≡ not (eqb (only b 1) 1)
        at true = refl
        at false = refl

    proves : (s : Survey) → Given s n e links → (v : Weights) → Weighed n plus minus v → Proves s v (amounts_of amounts') p' m' marks'
    proves s given v weighed =
        record {
          heaviest = heaviest_same inside (record { at = λ g l. back (marked_set marks' g) }) (drained_heaviest s (amounts_of amounts') v inside drains dry);
          drains = drains;
          dry = dry;
          balanced = balanced;
        }
      where
        inside : Inside s
        inside = given_inside given c.net

        alike : Alike s (copied n e ends) (amounts_of amounts') (flowing a')
        alike = given_alike given o y.at

        balanced : Balanced s v (amounts_of amounts') p' m'
        balanced = alike_balanced alike (w.flowed.keeps v (none_balanced ends none_yet h weighed))

        drains : Drains s v (amounts_of amounts') (outside (marked_set marks'))
        drains =
            least_drains balanced.below
            (least_same inside (record { at = λ g l. flips g (rw given.groups l) }) (alike_least alike w.done.least))

        dry : (g : ℕ) → g < s.n → In (outside (marked_set marks')) g → credit s v (amounts_of amounts') g ≤ debit s v (amounts_of amounts') g
        dry g l i =
            let b : g < n = rw given.groups l in
            omega (arith, balanced.above g l, w.done.dry g b (flips g b ∙ i))

        back : (b : Bool) → not (not b) ≡ b
        back true = refl
        back false = refl

    pub heavy_law : Heavy n e links plus minus marks amounts p' m' marks' amounts'
    heavy_law =
        record {
          proves = proves;
          small = λ k l. rw (y.at k l) (amount_small (course_after heavy_course w.flowed) k l);
          bits = λ g l. rw (x.at g l) (bit (eqb (get_or t g 0) 0));
          plus_rest = λ g l. w.flowed.ex_rest g l ∙ h.plus_rest g l;
          minus_rest = λ g l. w.flowed.la_rest g l ∙ h.minus_rest g l;
          marks_rest = λ g l. x.rest g l ∙ w.rest g l;
          amounts_rest = y.rest;
          plus_long = w.flowed.ex_long ∙ h.plus_long;
          minus_long = w.flowed.la_long ∙ h.minus_long;
          marks_long = x.long ∙ w.long;
          amounts_long = y.long;
        }
      where
        bit : (b : Bool) → only b 1 ≤ 1
        bit true = omega arith
        bit false = omega arith

-- Two results that are allowed have the same marks. Not the same amounts: several may prove the set. What the amounts leave of the balances goes by them: equal
-- amounts leave equal halves, and past n and e nothing is left open.
pub record SameHeavy (e : ℕ) (p p' m m' t t' a a' : List ℕ) : Type 0 where
  pub marks : t ≡ t'
  pub halves : ((k : ℕ) → k < e → amounts_of a k ≡ amounts_of a' k) → (p ≡ p') × (m ≡ m')
  pub once_equal : ((i : ℕ) → i < entry_bytes * e → get_or a i 0 ≡ get_or a' i 0) → a ≡ a'

-- lists that agree up to a place, and from there on with a third
alike : (c : ℕ) (before l l' : List ℕ) → length l ≡ length before → length l' ≡ length before → ((i : ℕ) → i < c → get_or l i 0 ≡ get_or l' i 0)
    → ((i : ℕ) → c ≤ i → get_or l i 0 ≡ get_or before i 0) → ((i : ℕ) → c ≤ i → get_or l' i 0 ≡ get_or before i 0) → l ≡ l'
alike c before l l' long long' first rest rest' = ext_get_or 0 l l' (long ∙ sym long') (λ i h. at i (ltb i c) refl)
  where
    at : (i : ℕ) (r : Bool) → ltb i c ≡ r → get_or l i 0 ≡ get_or l' i 0
    at i true r = first i (ltb-true i c r)
    at i false r = let b = ltb-false i c r in rest i b ∙ sym (rest' i b)

pub heaviest_one :
    {n e : ℕ} {links plus minus marks amounts p m t a p' m' t' a' : List ℕ} → Heavy n e links plus minus marks amounts p m t a
    → Heavy n e links plus minus marks amounts p' m' t' a' → SameHeavy e p p' m m' t t' a a'
heaviest_one {n} {e} {links} {plus} {minus} {marks} {amounts} {p = p} {m = m} {t = t} {a = a} {p' = p'} {m' = m'} {t' = t'} {a' = a'} x y =
    record {
      marks = alike n marks t t' x.marks_long y.marks_long (λ g l. bits_one (x.bits g l) (y.bits g l) (same.at g l)) x.marks_rest y.marks_rest;
      halves =
          λ q. (
            alike n plus p p' x.plus_long y.plus_long (λ g l. one.balanced.above g l ∙ excess_same (equal q) w g ∙ sym (two.balanced.above g l))
                x.plus_rest y.plus_rest,
            alike n minus m m' x.minus_long y.minus_long (λ g l. one.balanced.below g l ∙ lack_same (equal q) w g ∙ sym (two.balanced.below g l))
                x.minus_rest y.minus_rest,
          );
      once_equal = λ q. alike (entry_bytes * e) amounts a a' x.amounts_long y.amounts_long q x.amounts_rest y.amounts_rest;
    }
  where
    w : Weights
    w = listed plus minus

    one : Proves (bare n e links) w (amounts_of a) p m t
    one = x.proves (bare n e links) (bare_given n e links) w (listed_weighed plus minus)

    two : Proves (bare n e links) w (amounts_of a') p' m' t'
    two = y.proves (bare n e links) (bare_given n e links) w (listed_weighed plus minus)

    same : Same (bare n e links) (marked_set t) (marked_set t')
    same = unique.heaviest_one one.heaviest two.heaviest

    equal : ((k : ℕ) → k < e → amounts_of a k ≡ amounts_of a' k) → SameAmounts (bare n e links) (amounts_of a) (amounts_of a')
    equal q = record { at = q }
