-- What a claim says past n and e counts for nothing: one with the same groups and the same amounts is accepted too.
use Prim.Native.Nat.{ℕ, ◌<◌}
use native.Mathlib.Omega.{arith}
use mathlib.Core.Path.{◌≡◌, sym, ap, subst}
use lib.Dec.{eqb}
use Rattle.survey.specs.Survey.{Survey}
use Rattle.survey.specs.Sets.{Set, Same, only}
use Rattle.survey.specs.Rounds.{Weights, weights}
use Rattle.survey.specs.Balance.{Amounts, gets, pays, excess, lack, Settled, LargestSettled, BalanceAbove0, Accepted}
use Rattle.survey.specs.Sound.{Inside}
use Rattle.survey.proofs.Sums.{sum_cong}
use Rattle.survey.proofs.SameSets.{candidate_same, weights_same, largest_settled_same}

-- the same amount on each link
pub record SameAmounts (s : Survey) (a b : Amounts) : Type 0 where
  pub at : (k : ℕ) → k < s.e → a k ≡ b k

pub amounts_sym : {s : Survey} {a b : Amounts} → SameAmounts s a b → SameAmounts s b a
amounts_sym e = record { at = λ k l. sym (e.at k l) }

module _ {s : Survey} {a b : Amounts} (e : SameAmounts s a b) where
  gets_same : (g : ℕ) → gets s a g ≡ gets s b g
  unfolding gets
  gets_same g = sum_cong s.e _ _ (λ k l. ap (only (eqb (s.link k).from g)) (e.at k l))

  pays_same : (g : ℕ) → pays s a g ≡ pays s b g
  unfolding pays
  pays_same g = sum_cong s.e _ _ (λ k l. ap (only (eqb (s.link k).to g)) (e.at k l))

  pub excess_same : (w : Weights) (g : ℕ) → excess s w a g ≡ excess s w b g
  excess_same w g = rw (gets_same g, pays_same g)

  pub lack_same : (w : Weights) (g : ℕ) → lack s w a g ≡ lack s w b g
  lack_same w g = rw (gets_same g, pays_same g)

  above_amounts : (w : Weights) (g : ℕ) → BalanceAbove0 s w b g → BalanceAbove0 s w a g
  above_amounts w g h = omega (arith, gets_same g, pays_same g)

  settled_amounts : (w : Weights) {S : Set} → Settled s w a S → Settled s w b S
  settled_amounts w x =
      record {
        eligible = x.eligible;
        zero = λ g l m. omega (arith, x.zero g l m, gets_same g, pays_same g);
        keeps = λ k l f t p. x.keeps k l f t (omega (arith, e.at k l));
      }

largest_amounts : {s : Survey} {a b : Amounts} → SameAmounts s a b → (w : Weights) {S : Set} → LargestSettled s w a S → LargestSettled s w b S
largest_amounts e w x = record { settled = settled_amounts e w x.settled; largest = λ B y. x.largest B (settled_amounts (amounts_sym e) w y) }

pub accepted_same : {s : Survey} → Inside s → {A B : Set} {a b : Amounts} → Same s A B → SameAmounts s a b → Accepted s A a → Accepted s B b
accepted_same {s} i {A} {B} {a} {b} d e x =
    record {
      candidate = candidate_same i d x.candidate;
      no_balance_above = λ g l h. x.no_balance_above g l (above_amounts e (weights s A) g (subst (λ (w : Weights). BalanceAbove0 s w b g) (sym own) h));
      largest = largest_settled_same i d (largest_amounts e (weights s B) (subst (λ (w : Weights). LargestSettled s w a A) own x.largest));
    }
  where
    own : weights s A ≡ weights s B
    own = weights_same d
