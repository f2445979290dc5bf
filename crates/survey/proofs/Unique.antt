-- There is one pick, one heaviest set, one largest settled set and one count of rounds, as far as the survey's groups go.
use Prim.Native.Nat.{ℕ, suc}
use mathlib.Core.Path.{◌≡◌, refl, ap}
use Rattle.survey.specs.Survey.{Survey}
use Rattle.survey.specs.Sets.{Set, Same}
use Rattle.survey.specs.Pick.{IsPick}
use Rattle.survey.specs.Rounds.{Weights, weights, Heaviest, WeighsZero, Rounds, last, more}
use Rattle.survey.specs.Balance.{Amounts, LargestSettled}
use Rattle.survey.proofs.SameSets.{same_sym, contains_both, weights_same, zero_same}

module _ {s : Survey} {A B : Set} where
  -- Specification 5.4: no survey has two picks.
  pub pick_one : IsPick s A → IsPick s B → Same s A B
  pick_one a b = search (contains_both, a.contains B b.best, b.contains A a.best)

  pub heaviest_one : {w : Weights} → Heaviest s w A → Heaviest s w B → Same s A B
  heaviest_one a b = search (contains_both, a.largest B b.greatest, b.largest A a.greatest)

  pub largest_settled_one : {w : Weights} {a : Amounts} → LargestSettled s w a A → LargestSettled s w a B → Same s A B
  largest_settled_one a b = search (contains_both, a.largest B b.settled, b.largest A a.settled)

-- From the same groups, a round comes to the same groups, and both weigh 0 or neither does.
module _ {s : Survey} {C C' S S' : Set} (e : Same s C C') (h : Heaviest s (weights s C) S) (h' : Heaviest s (weights s C') S') where
  round_one : Same s S S'
  round_one = heaviest_one h (rw (← weights_same e) at h')

  round_zero : WeighsZero s (weights s C) S → WeighsZero s (weights s C') S'
  round_zero z = zero_same (weights s C') round_one (rw (weights_same e) at z)

pub rounds_one : {s : Survey} {C C' P P' : Set} {k k' : ℕ} → Rounds s C k P → Rounds s C' k' P' → Same s C C' → (k ≡ k') × Same s P P'
rounds_one (last h z) (last h' z') e = (refl, round_one e h h')
rounds_one (last h z) (more h' z' r') e = absurd (z' (round_zero e h h' z))
rounds_one (more h z r) (last h' z') e = absurd (z (round_zero (same_sym e) h' h z'))
rounds_one (more h z r) (more h' z' r') e = let x = rounds_one r r' (round_one e h h') in (ap suc x.0, x.1)
