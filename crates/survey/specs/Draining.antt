-- Not of the specification, but what its proofs turn on: the set that drains, the least one that holds every group with a balance below 0 and
-- that a group with a link to pay it by joins. Outside it lies the heaviest set (flow) and the largest settled set (checker).
-- docs/MATHEMATICS.md, 4, has the thought behind it.
use Rattle.std.specs.Prelude.{ℕ, ◌<◌}
use Rattle.survey.specs.Survey.{Survey}
use Rattle.survey.specs.Sets.{Set, In, Contains}
use Rattle.survey.specs.Rounds.{Weights}
use Rattle.survey.specs.Balance.{Amounts, credit, debit}

-- By a link (p, q), q pays p: whatever the amount, so where p drains q does; and it takes back what it paid, so where q drains and the
-- link has an amount, p does.
pub record Obeys (s : Survey) (a : Amounts) (T : Set) : Type 0 where
  pub forth : (k : ℕ) → k < s.e → In T (s.link k).from → In T (s.link k).to
  pub back : (k : ℕ) → k < s.e → 0 < a k → In T (s.link k).to → In T (s.link k).from

-- every group whose balance is below 0 is in the set
pub record HoldsLacks (s : Survey) (w : Weights) (a : Amounts) (T : Set) : Type 0 where
  pub holds : (g : ℕ) → g < s.n → credit s w a g < debit s w a g → In T g

-- the least such set
pub record Drains (s : Survey) (w : Weights) (a : Amounts) (T : Set) : Type 0 where
  pub obeys : Obeys s a T
  pub lacks : HoldsLacks s w a T
  pub least : (U : Set) → Obeys s a U → HoldsLacks s w a U → Contains s U T
