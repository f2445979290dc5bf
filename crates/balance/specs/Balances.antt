-- Balances, in two lists: credit and debit.
use Rattle.std.specs.Prelude.{ℕ, ◌+◌, ◌*◌, ◌^◌, ◌≤◌, ◌<◌, ◌≡◌, List, length, get_or, eqb}
use Rattle.survey.specs.Limits.{entry_bytes, group_limit}
use Rattle.survey.specs.Sets.{sum, only}
use Rattle.survey.specs.Rounds.{weights}
use Rattle.survey.specs.Balance.{Amounts, credit, debit}
use Rattle.survey.specs.Words.{link_at, lent, survey_of, marked_set, amounts_of}
use Rattle.survey.specs.Refusals.{Fault, among}

-- ---- amounts, added along the links

-- the ends of link k as it stands in the list
abbrev pub from_of : List ℕ → ℕ → ℕ
from_of links k = (link_at links lent k).from

abbrev pub to_of : List ℕ → ℕ → ℕ
to_of links k = (link_at links lent k).to

-- the amounts on those of the first k links that have this end at g
abbrev pub amounts_at : (ℕ → ℕ) → Amounts → ℕ → ℕ → ℕ
amounts_at ends a k g = sum k (λ j. only (eqb (ends j) g) (a j))

-- place g of the list can take the amount
pub record AddAsks (list : List ℕ) (g amount : ℕ) : Type 0 where
  pub within : g < length list
  pub fits : get_or list g 0 + amount < 2 ^ 64

-- the list afterwards: the amounts on the first k links are added, each at its end
pub record Added (ends : ℕ → ℕ) (a : Amounts) (k : ℕ) (list list' : List ℕ) : Type 0 where
  pub long : length list' ≡ length list
  pub at : (g : ℕ) → g < length list → get_or list' g 0 ≡ get_or list g 0 + amounts_at ends a k g

-- the list has a place for the end of each link, which can take all amounts that go there
pub record Takes (ends : ℕ → ℕ) (a : Amounts) (e : ℕ) (list : List ℕ) : Type 0 where
  pub within : (k : ℕ) → k < e → ends k < length list
  pub fits : (k : ℕ) → k < e → get_or list (ends k) 0 + amounts_at ends a e (ends k) < 2 ^ 64

pub record AmountsAsk (e : ℕ) (links amounts credits debits : List ℕ) : Type 0 where
  pub links_long : entry_bytes * e ≤ length links
  pub amounts_long : entry_bytes * e ≤ length amounts
  pub from : Takes (from_of links) (amounts_of amounts) e credits
  pub to : Takes (to_of links) (amounts_of amounts) e debits

pub record AmountsAdded (e : ℕ) (links amounts credits debits credits' debits' : List ℕ) : Type 0 where
  pub from : Added (from_of links) (amounts_of amounts) e credits credits'
  pub to : Added (to_of links) (amounts_of amounts) e debits debits'

-- ---- the balances

-- the two halves of each balance of the survey, with the weights of the claimed set
pub record BalancesPut (n e : ℕ) (groups links marks amounts credits debits : List ℕ) : Type 0 where
  pub credit_at : (g : ℕ) → g < n → get_or credits g 0 ≡ credit (survey_of n e groups links) (weights (survey_of n e groups links) (marked_set marks)) (amounts_of amounts) g
  pub debit_at : (g : ℕ) → g < n → get_or debits g 0 ≡ debit (survey_of n e groups links) (weights (survey_of n e groups links) (marked_set marks)) (amounts_of amounts) g

-- 17, by the two lists
abbrev pub above_row : ℕ → List ℕ → List ℕ → Fault
above_row n credits debits = among 17 n (λ g. get_or debits g 0 < get_or credits g 0)

-- each balance is 0 or below
pub record LacksAsk (n : ℕ) (credits debits : List ℕ) : Type 0 where
  pub few : n ≤ group_limit
  pub level : (g : ℕ) → g < n → get_or credits g 0 ≤ get_or debits g 0
