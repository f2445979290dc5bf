-- Weights, put into two lists.
use Rattle.std.specs.Prelude.{ℕ, ◌*◌, ◌≤◌, ◌<◌, ◌≡◌, List, length, get_or}
use Rattle.survey.specs.Limits.{sum_limit}
use Rattle.survey.specs.Sets.{dead_of, cost_of}
use Rattle.weights.specs.Marked.{groups_of, SomeGroups}

-- the list afterwards: at each of the first n places what f gives, and the rest as before
pub record PutFirst (n : ℕ) (f : ℕ → ℕ) (l l' : List ℕ) : Type 0 where
  pub long : length l' ≡ length l
  pub first : (g : ℕ) → g < n → get_or l' g 0 ≡ f g
  pub rest : (g : ℕ) → n ≤ g → get_or l' g 0 ≡ get_or l g 0

-- what putting weights asks: d and l are sums of counts, and each list has a place for each group
pub record Puttable (n : ℕ) (groups : List ℕ) (d l : ℕ) (plus minus : List ℕ) : Type 0 where
  pub some : SomeGroups n groups
  pub dead : d ≤ sum_limit
  pub live : l ≤ sum_limit
  pub plus_long : n ≤ length plus
  pub minus_long : n ≤ length minus

-- the two halves of a weight (Specification 6.1)
pub record WeightsPut (n : ℕ) (groups : List ℕ) (d l : ℕ) (plus minus plus' minus' : List ℕ) : Type 0 where
  pub pluses : PutFirst n (λ g. dead_of (groups_of n groups) g * l) plus plus'
  pub minuses : PutFirst n (λ g. cost_of (groups_of n groups) g * d) minus minus'
