-- The balance rule decides, whoever wrote the amounts: what it accepts is the pick (docs/MATHEMATICS.md, 6).
use Prim.Native.Nat.{ℕ, ◌+◌, ◌*◌, ◌≤◌, ◌<◌}
use native.Mathlib.Nat.{mul_comm, mul-pos}
use native.Mathlib.Omega.{arith}
use mathlib.Core.Path.{◌≡◌, ap}
use Rattle.survey.specs.Survey.{Survey}
use Rattle.survey.specs.Sets.{Set, Closed, Eligible, Contains, total, dead_of, cost_of, D, L}
use Rattle.survey.specs.Pick.{Candidate, BetterSet, IsPick}
use Rattle.survey.specs.Rounds.{weights, total_plus, total_minus}
use Rattle.survey.specs.Balance.{Amounts, BalanceAbove0, credit, debit, Settled, LargestSettled, Accepted, excess, lack}
use Rattle.survey.specs.Sound.{Inside}
use Rattle.survey.proofs.Totals.{total_mul, total_zero, member_le}
use Rattle.survey.proofs.BalanceLaw.{leaving, leaves_none, balance_law}

-- what a set weighs, by the weights that C gives
pub weighs_plus : (s : Survey) (C B : Set) → total_plus s (weights s C) B ≡ D s B * L s C
weighs_plus s C B = total_mul s (dead_of s) (L s C) B

pub weighs_minus : (s : Survey) (C B : Set) → total_minus s (weights s C) B ≡ L s B * D s C
weighs_minus s C B = total_mul s (cost_of s) (D s C) B

-- Specification 5.2: a candidate with nothing live beats each one with something live.
pub nothing_live_better : {s : Survey} {A B : Set} → Candidate s A → Candidate s B → L s A ≡ 0 → 0 < L s B → BetterSet s A B
nothing_live_better {s} {A} {B} a b z p =
    omega (arith, ap (λ (l : ℕ). l * D s A) z, ap (λ (l : ℕ). l * D s B) z, mul-pos p a.dead, mul-pos p b.dead)

module _ {s : Survey} (i : Inside s) (S : Set) (a : Amounts) (none : (g : ℕ) → g < s.n → BalanceAbove0 s (weights s S) a g → ⊥) where
  -- no balance is above 0, so what a closed set weighs falls short by what leaves it and by what its balances lack
  short : {B : Set} → Closed s B → D s B * L s S + leaving s a B + total s (lack s (weights s S) a) B ≡ L s B * D s S
  short {B} c =
      omega (
        arith,
        balance_law s a B i (weights s S) c,
        weighs_plus s S B,
        weighs_minus s S B,
        total_zero s (excess s (weights s S) a) B (λ g l m. at g (none g l)),
      )
    where
      at : (g : ℕ) → (BalanceAbove0 s (weights s S) a g → ⊥) → excess s (weights s S) a g ≡ 0
      at g n = omega arith

  pub none_better : {B : Set} → Closed s B → D s B * L s S ≤ L s B * D s S
  none_better c = omega (arith, short c)

  -- and where it falls short by nothing, the set is one of the balance rule
  pub equal_settled : {B : Set} → Eligible s B → L s B * D s S ≤ D s B * L s S → Settled s (weights s S) a B
  equal_settled {B} b h =
      record {
        eligible = b;
        zero = λ g l m. at g (none g l) (omega (arith, short b.closed, member_le s (lack s (weights s S) a) B g l m));
        keeps = leaves_none s a B (omega (arith, short b.closed));
      }
    where
      at : (g : ℕ) → (BalanceAbove0 s (weights s S) a g → ⊥) → lack s (weights s S) a g ≡ 0 → debit s (weights s S) a g ≡ credit s (weights s S) a g
      at g n z = omega arith

  -- The claimed set is always one of them, so it lies in the largest: where it is not the largest, refusal 18 has its place.
  pub claimed_settled : Eligible s S → Settled s (weights s S) a S
  claimed_settled b = equal_settled b (omega (arith, mul_comm (L s S) (D s S)))

  pub claimed_within : {T : Set} → Eligible s S → LargestSettled s (weights s S) a T → Contains s T S
  claimed_within b t = t.largest S (claimed_settled b)

-- What the balance rule accepts is the pick.
pub accepted_pick : {s : Survey} → Inside s → {S : Set} {a : Amounts} → Accepted s S a → IsPick s S
accepted_pick {s} i {S} {a} c =
    record {
      best =
          record {
            candidate = c.candidate;
            unbeaten = λ B b h. omega (arith, none_better i S a c.no_balance_above b.eligible.closed, mul_comm (L s S) (D s B));
          };
      contains =
          λ B b. c.largest.largest B
          (equal_settled i S a c.no_balance_above b.candidate.eligible (at B (b.unbeaten S c.candidate)));
    }
  where
    at : (B : Set) → (BetterSet s S B → ⊥) → L s B * D s S ≤ D s B * L s S
    at B n = omega (arith, mul_comm (D s B) (L s S))
