-- The heaviest closed set, with the amounts that prove it.
use Rattle.std.specs.Prelude.{ℕ, ◌-◌, ◌*◌, ◌<◌, ◌≤◌, ◌≡◌, List, length, get_or, eqb}
use Rattle.survey.specs.Limits.{amount_limit, entry_bytes}
use Rattle.survey.specs.Survey.{Survey, Cycle}
use Rattle.survey.specs.Sets.{In, sum, only, outside}
use Rattle.survey.specs.Rounds.{Weights, Heaviest}
use Rattle.survey.specs.Balance.{Amounts, credit, debit}
use Rattle.survey.specs.Words.{amounts_of, marked_set}
use Rattle.survey.specs.Draining.{Drains}
use Rattle.flow.specs.Links.{end_of, Given, bare, LinksWithin}
use Rattle.flow.specs.Drains.{Net}
use Rattle.flow.specs.Sends.{Balanced}

-- ---- what begins and what ends it

-- each weight's two halves, in place of its plus and its minus
pub record Halved (n : ℕ) (plus minus plus' minus' : List ℕ) : Type 0 where
  pub above : (g : ℕ) → g < n → get_or plus' g 0 ≡ get_or plus g 0 - get_or minus g 0
  pub below : (g : ℕ) → g < n → get_or minus' g 0 ≡ get_or minus g 0 - get_or plus g 0
  pub plus_rest : (g : ℕ) → n ≤ g → get_or plus' g 0 ≡ get_or plus g 0
  pub minus_rest : (g : ℕ) → n ≤ g → get_or minus' g 0 ≡ get_or minus g 0
  pub plus_long : length plus' ≡ length plus
  pub minus_long : length minus' ≡ length minus

-- 1 for 0, and 0 for any other
abbrev pub flipped : ℕ → ℕ
flipped m = only (eqb m 0) 1

pub record Flipped (n : ℕ) (t t' : List ℕ) : Type 0 where
  pub at : (g : ℕ) → g < n → get_or t' g 0 ≡ flipped (get_or t g 0)
  pub rest : (g : ℕ) → n ≤ g → get_or t' g 0 ≡ get_or t g 0
  pub long : length t' ≡ length t

-- ---- the whole

-- the weights that two lists give
pub record Weighed (n : ℕ) (plus minus : List ℕ) (w : Weights) : Type 0 where
  pub plus_is : (g : ℕ) → g < n → w.plus g ≡ get_or plus g 0
  pub minus_is : (g : ℕ) → g < n → w.minus g ≡ get_or minus g 0

-- what `heaviest` asks: links in a survey's size that have no cycle and of which no two are the same, a place for each group and link, and a total plus that is small
pub record Weighable (n e : ℕ) (links plus minus marks amounts : List ℕ) : Type 0 where
  pub net : Net n e links
  pub no_cycle : Cycle (bare n e links) → ⊥
  pub once : (j k : ℕ) → j < e → k < e → end_of links 0 j ≡ end_of links 0 k → end_of links 4 j ≡ end_of links 4 k → j ≡ k
  pub plus_long : n ≤ length plus
  pub minus_long : n ≤ length minus
  pub marks_long : n ≤ length marks
  pub amounts_long : LinksWithin e amounts
  pub small : sum n (λ g. get_or plus g 0) ≤ amount_limit

-- The marks are those of the heaviest closed set, and the amounts prove it: outside of it is the least set that drains, and no balance there is
-- above 0. The two lists have the two halves of the balances.
pub record Proves (s : Survey) (w : Weights) (x : Amounts) (ex la marks : List ℕ) : Type 0 where
  pub heaviest : Heaviest s w (marked_set marks)
  pub drains : Drains s w x (outside (marked_set marks))
  pub dry : (g : ℕ) → g < s.n → In (outside (marked_set marks)) g → credit s w x g ≤ debit s w x g
  pub balanced : Balanced s w x ex la

-- what `heaviest` promises of each survey with these links and the weights that the lists gave at entry; the rest of each list is as before
pub record Heavy (n e : ℕ) (links plus minus marks amounts plus' minus' marks' amounts' : List ℕ) : Type 0 where
  pub proves : (s : Survey) → Given s n e links → (w : Weights) → Weighed n plus minus w → Proves s w (amounts_of amounts') plus' minus' marks'
  pub small : (k : ℕ) → k < e → amounts_of amounts' k ≤ amount_limit
  pub bits : (g : ℕ) → g < n → get_or marks' g 0 ≤ 1
  pub plus_rest : (g : ℕ) → n ≤ g → get_or plus' g 0 ≡ get_or plus g 0
  pub minus_rest : (g : ℕ) → n ≤ g → get_or minus' g 0 ≡ get_or minus g 0
  pub marks_rest : (g : ℕ) → n ≤ g → get_or marks' g 0 ≡ get_or marks g 0
  pub amounts_rest : (i : ℕ) → entry_bytes * e ≤ i → get_or amounts' i 0 ≡ get_or amounts i 0
  pub plus_long : length plus' ≡ length plus
  pub minus_long : length minus' ≡ length minus
  pub marks_long : length marks' ≡ length marks
  pub amounts_long : length amounts' ≡ length amounts
