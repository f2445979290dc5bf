-- The set that drains: the least one that holds every group with a balance below 0 and that a group with a link to pay it by joins.
-- What is left outside it is the heaviest set (flow), and the largest settled set (checker): one notion serves both.
use Prim.Native.Nat.{ℕ, ◌+◌, ◌≤◌, ◌<◌}
use native.Mathlib.Omega.{arith}
use mathlib.Core.Path.{◌≡◌}
use mathlib.Core.Bool.{Bool, true, false, not}
use borrow.Author.Tests.{not-true, not-false}
use Rattle.survey.specs.Survey.{Survey}
use Rattle.survey.specs.Sets.{Set, In, Out, Closed, Eligible, Contains, total, outside}
use Rattle.survey.specs.Rounds.{Weights, WeighsAtMost, Greatest, Heaviest, total_plus, total_minus}
use Rattle.survey.specs.Balance.{Amounts, credit, debit, excess, lack, LargestSettled}
use Rattle.survey.specs.Sound.{Inside}
use Rattle.survey.specs.Draining.{Obeys, HoldsLacks, Drains}
use Rattle.survey.proofs.Totals.{total_le, total_zero, member_le, by_test, not_both}
use Rattle.survey.proofs.BalanceLaw.{leaving, leaves_none, none_leaves, balance_law}

-- out of the outside is in, and the other way round
pub out_in : {t : Bool} → not t ≡ false → t ≡ true
out_in {t} h = not-false t h

pub in_out : {t : Bool} → not t ≡ true → t ≡ false
in_out {t} h = not-true t h

pub outside_in : {t : Bool} → t ≡ false → not t ≡ true
outside_in z = rw z

pub outside_out : {t : Bool} → t ≡ true → not t ≡ false
outside_out y = rw y

-- a set that is false wherever another is true
pub apart : {t u : Bool} → (t ≡ true → u ≡ true) → u ≡ false → t ≡ false
apart {t} f z = by_test t (λ y. absurd (not_both (f y) z)) (λ x. x)

module _ (s : Survey) (a : Amounts) where
  -- A set obeys the two rules exactly where its outside is closed and nothing leaves that.
  pub outside_closed : {T : Set} → Obeys s a T → Closed s (outside T)
  outside_closed o = record { back = λ k l m. outside_in (apart (o.forth k l) (in_out m)) }

  pub outside_keeps : {T : Set} → Obeys s a T → (k : ℕ) → k < s.e → In (outside T) (s.link k).from → Out (outside T) (s.link k).to → 0 < a k → ⊥
  outside_keeps o k l f t p = not_both (o.back k l p (out_in t)) (in_out f)

  pub outside_obeys : {B : Set} → Closed s B → ((k : ℕ) → k < s.e → In B (s.link k).from → Out B (s.link k).to → 0 < a k → ⊥) → Obeys s a (outside B)
  outside_obeys {B} c keeps =
      record {
        forth = λ k l m. outside_in (apart (c.back k l) (in_out m));
        back = λ k l p m. outside_in (by_test (B (s.link k).from) (λ y. absurd (keeps k l y (in_out m) p)) (λ z. z));
      }

  module _ (w : Weights) where
    -- A closed set from which nothing leaves and in which no balance is below 0 lies outside every least set.
    pub outside_drains : {T B : Set} → Drains s w a T → Closed s B → leaving s a B ≡ 0 → ((g : ℕ) → g < s.n → In B g → debit s w a g ≤ credit s w a g) → Contains s (outside T) B
    outside_drains {T} {B} d c none level =
        record {
          has = λ g l m. outside_in (apart (λ t. (d.least (outside B) (outside_obeys c (leaves_none s a B none)) held).has g l t) (outside_out m));
        }
      where
        held : HoldsLacks s w a (outside B)
        held = record { holds = λ g l h. outside_in (by_test (B g) (λ y. absurd (below g l h (level g l y))) (λ z. z)) }
          where
            below : (g : ℕ) → g < s.n → credit s w a g < debit s w a g → debit s w a g ≤ credit s w a g → ⊥
            below g l h k = omega arith

    -- Amounts prove a set the heaviest: where no balance in the draining set is above 0, its outside is the heaviest closed set.
    module _ (i : Inside s) {T : Set} (d : Drains s w a T) (dry : (g : ℕ) → g < s.n → In T g → credit s w a g ≤ debit s w a g) where
      no_lack : (g : ℕ) → g < s.n → Out T g → debit s w a g ≤ credit s w a g
      no_lack g l z = at (λ h. not_both (d.lacks.holds g l h) z)
        where
          at : (credit s w a g < debit s w a g → ⊥) → debit s w a g ≤ credit s w a g
          at n = omega arith

      -- what the outside weighs is the excess in it
      pub weighs : total_plus s w (outside T) ≡ total_minus s w (outside T) + total s (excess s w a) (outside T)
      weighs =
          omega (
            arith,
            balance_law s a (outside T) i w (outside_closed d.obeys),
            none_leaves s a (outside T) (outside_keeps d.obeys),
            total_zero s (lack s w a) (outside T) (λ g l m. omega (arith, no_lack g l (in_out m))),
          )

      -- and any closed set has no more excess in it
      excess_outside : (B : Set) → total s (excess s w a) B ≤ total s (excess s w a) (outside T)
      excess_outside B =
          total_le s (excess s w a) B (outside T) (λ g l m p. outside_in (by_test (T g) (λ y. absurd (none g (dry g l y) p)) (λ z. z)))
        where
          none : (g : ℕ) → credit s w a g ≤ debit s w a g → 0 < excess s w a g → ⊥
          none g h p = omega arith

      most : (B : Set) → Eligible s B → WeighsAtMost s w B (outside T)
      most B c = omega (arith, balance_law s a B i w c.closed, weighs, excess_outside B)

      largest : (B : Set) → Greatest s w B → Contains s (outside T) B
      largest B b =
          let law : _ = balance_law s a B i w b.eligible.closed in
          let same : _ = b.most (outside T) (record { closed = outside_closed d.obeys }) in
          outside_drains d b.eligible.closed (omega (arith, weighs, excess_outside B))
          (λ g l m. level g (omega (arith, weighs, excess_outside B, member_le s (lack s w a) B g l m)))
        where
          level : (g : ℕ) → lack s w a g ≡ 0 → debit s w a g ≤ credit s w a g
          level g z = omega arith

      pub drained_heaviest : Heaviest s w (outside T)
      drained_heaviest =
          record {
            greatest = record { eligible = record { closed = outside_closed d.obeys }; most = most };
            largest = largest;
          }

    -- Where no balance is above 0 at all, the outside of the draining set is the largest settled set.
    pub drained_settled : {T : Set} → Drains s w a T → ((g : ℕ) → g < s.n → credit s w a g ≤ debit s w a g) → LargestSettled s w a (outside T)
    drained_settled {T} d none =
        record {
          settled =
              record {
                eligible = record { closed = outside_closed d.obeys };
                zero = λ g l m. level g (none g l) (λ h. not_both (d.lacks.holds g l h) (in_out m));
                keeps = outside_keeps d.obeys;
              };
          largest = λ B b. outside_drains d b.eligible.closed (none_leaves s a B b.keeps) (λ g l m. even g (b.zero g l m));
        }
      where
        level : (g : ℕ) → credit s w a g ≤ debit s w a g → (credit s w a g < debit s w a g → ⊥) → debit s w a g ≡ credit s w a g
        level g h n = omega arith

        even : (g : ℕ) → debit s w a g ≡ credit s w a g → debit s w a g ≤ credit s w a g
        even g e = omega arith
