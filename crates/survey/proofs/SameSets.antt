-- What a set says from n on counts for nothing: whatever the definitions say of a set holds of each set with the same groups.
use Prim.Native.Nat.{ℕ}
use mathlib.Core.Path.{◌≡◌, refl, sym, ◌∙◌}
use mathlib.Core.Bool.{Bool, true, false}
use native.Mathlib.Omega.{arith}
use Rattle.survey.specs.Survey.{Survey}
use Rattle.survey.specs.Sets.{Set, Contains, Same, Closed, Eligible, total, dead_of, cost_of}
use Rattle.survey.specs.Pick.{Candidate, BetterSet, Best, IsPick}
use Rattle.survey.specs.Rounds.{Weights, weights, WeighsAtMost, WeighsZero, Greatest, Heaviest, Rounds, last, more}
use Rattle.survey.specs.Balance.{Amounts, Settled, LargestSettled}
use Rattle.survey.specs.Sound.{Inside}
use Rattle.survey.proofs.Sums.{sum_cong}

pub same_refl : {s : Survey} {A : Set} → Same s A A
same_refl = record { at = λ g l. refl }

pub same_sym : {s : Survey} {A B : Set} → Same s A B → Same s B A
same_sym e = record { at = λ g l. sym (e.at g l) }

pub same_trans : {s : Survey} {A B C : Set} → Same s A B → Same s B C → Same s A C
same_trans d e = record { at = λ g l. d.at g l ∙ e.at g l }

equal_tests : (a b : Bool) → (b ≡ true → a ≡ true) → (a ≡ true → b ≡ true) → a ≡ b
equal_tests true b f g = sym (g refl)
equal_tests false true f g = f refl
equal_tests false false f g = refl

-- Two sets of which each contains the other.
pub contains_both : {s : Survey} {A B : Set} → Contains s A B → Contains s B A → Same s A B
contains_both {s} {A} {B} c d = record { at = λ g l. equal_tests (A g) (B g) (c.has g l) (d.has g l) }

pub contains_same : {s : Survey} {A A' B B' : Set} → Same s A A' → Same s B B' → Contains s A B → Contains s A' B'
contains_same d e c = record { has = λ g l h. sym (d.at g l) ∙ c.has g l (e.at g l ∙ h) }

-- Whichever of two sets contains the other, one of them may be told by the same groups.
module _ {s : Survey} {A B : Set} (e : Same s A B) (C : Set) where
  holds_same : Contains s A C → Contains s B C
  holds_same c = contains_same e same_refl c

  held_same : Contains s C A → Contains s C B
  held_same c = contains_same same_refl e c

-- ---- sums

module _ {s : Survey} {A B : Set} (e : Same s A B) where
  pub total_same : (f : ℕ → ℕ) → total s f A ≡ total s f B
  unfolding total
  total_same f = sum_cong s.n _ _ (λ g l. rw (e.at g l))

  pub weights_same : weights s A ≡ weights s B
  weights_same = rw (total_same (dead_of s), total_same (cost_of s))

-- A's weight against B's, and its being 0.
pub weighs_same : {s : Survey} {A A' B B' : Set} (w : Weights) → Same s A A' → Same s B B' → WeighsAtMost s w A B → WeighsAtMost s w A' B'
weighs_same w d e h = omega (arith, total_same d w.plus, total_same d w.minus, total_same e w.plus, total_same e w.minus)

pub zero_same : {s : Survey} {A B : Set} (w : Weights) → Same s A B → WeighsZero s w A → WeighsZero s w B
zero_same w e h = omega (arith, total_same e w.plus, total_same e w.minus)

pub better_same : {s : Survey} {A A' B B' : Set} → Same s A A' → Same s B B' → BetterSet s A B → BetterSet s A' B'
better_same d e h = simp (total_same (same_sym d), total_same (same_sym e)) h

-- ---- the sets that are defined, of a survey whose links end in groups

module _ {s : Survey} (i : Inside s) {A B : Set} (e : Same s A B) where
  pub closed_same : Closed s A → Closed s B
  closed_same c = record { back = λ k l. rw (e.at _ (i.from k l), e.at _ (i.to k l)) at (c.back k l) }

  pub eligible_same : Eligible s A → Eligible s B
  eligible_same c = record { closed = closed_same c.closed }

  pub candidate_same : Candidate s A → Candidate s B
  candidate_same c = record { eligible = eligible_same c.eligible; dead = omega (arith, total_same e (dead_of s), c.dead) }

  pub best_same : Best s A → Best s B
  best_same b = record { candidate = candidate_same b.candidate; unbeaten = λ C c h. b.unbeaten C c (better_same same_refl (same_sym e) h) }

  pub pick_same : IsPick s A → IsPick s B
  pick_same p = record { best = best_same p.best; contains = λ C c. search (holds_same e C, held_same e C, p.contains C c) }

  module _ {w : Weights} where
    pub greatest_same : Greatest s w A → Greatest s w B
    greatest_same g = record { eligible = eligible_same g.eligible; most = λ C c. weighs_same w same_refl e (g.most C c) }

    pub heaviest_same : Heaviest s w A → Heaviest s w B
    heaviest_same h = record { greatest = greatest_same h.greatest; largest = λ C c. search (holds_same e C, held_same e C, h.largest C c) }

    module _ {a : Amounts} where
      pub settled_same : Settled s w a A → Settled s w a B
      settled_same x =
          record {
            eligible = eligible_same x.eligible;
            zero = λ g l h. x.zero g l (e.at g l ∙ h);
            keeps = λ k l h o. x.keeps k l (e.at _ (i.from k l) ∙ h) (e.at _ (i.to k l) ∙ o);
          }

      pub largest_settled_same : LargestSettled s w a A → LargestSettled s w a B
      largest_settled_same x = record { settled = settled_same x.settled; largest = λ C c. search (holds_same e C, held_same e C, x.largest C c) }

-- ---- rounds: from the same groups, and to the same groups

pub rounds_start_same : {s : Survey} {C C' P : Set} {k : ℕ} → Same s C C' → Rounds s C k P → Rounds s C' k P
rounds_start_same e (last h z) = last (rw (weights_same e) at h) (rw (weights_same e) at z)
rounds_start_same e (more h z r) = more (rw (weights_same e) at h) (rw (weights_same e) at z) r

pub rounds_end_same : {s : Survey} {C P P' : Set} {k : ℕ} → Inside s → Same s P P' → Rounds s C k P → Rounds s C k P'
rounds_end_same {s} {C} i e (last h z) = last (heaviest_same i e h) (zero_same (weights s C) e z)
rounds_end_same i e (more h z r) = more h z (rounds_end_same i e r)
