-- The working copy from which the waves read: of each link two bytes, its from and then its to, and its amount as a number.
use Rattle.std.specs.Prelude.{ℕ, ◌+◌, ◌*◌, ◌<◌, ◌≤◌, ◌≡◌, List, length, get_or}
use Rattle.survey.specs.Limits.{group_limit, link_limit, entry_bytes}
use Rattle.survey.specs.Survey.{Survey}
use Rattle.survey.specs.Balance.{Amounts}
use Rattle.survey.specs.Words.{amounts_of}
use Rattle.flow.specs.Links.{end_of, LinksWithin}

-- an end of link k in the copy: at 0 its from, at 1 its to
unfoldable pub end_in : List ℕ → ℕ → ℕ → ℕ
end_in l end k = get_or l (2 * k + end) 0

-- the survey that n and the copy of e links give, of which the counts are left open
abbrev pub copied : ℕ → ℕ → List ℕ → Survey
copied n e l =
    record {
      n = n;
      e = e;
      group = λ g. record { dead = 0; live = 0 };
      link = λ k. record { from = end_in l 0 k; to = end_in l 1 k };
    }

abbrev pub flowing : List ℕ → Amounts
flowing l k = get_or l k 0

-- a copy of the size that the working arrays have, whose links lie within the list and end in groups
pub record Copy (n e : ℕ) (ends : List ℕ) : Type 0 where
  pub few_groups : n ≤ group_limit
  pub few_links : e ≤ link_limit
  pub ends_long : 2 * e ≤ length ends
  pub from : (k : ℕ) → k < e → end_in ends 0 k < n
  pub to : (k : ℕ) → k < e → end_in ends 1 k < n

-- ---- making the copy, and writing the amounts back

-- what copying the ends asks: each end fits a byte
pub record Copyable (e : ℕ) (links ends : List ℕ) : Type 0 where
  pub few : e ≤ link_limit
  pub links_long : LinksWithin e links
  pub ends_long : 2 * e ≤ length ends
  pub from : (k : ℕ) → k < e → end_of links 0 k < group_limit
  pub to : (k : ℕ) → k < e → end_of links 4 k < group_limit

-- the list afterwards: the ends of the first e links, and the rest as before
pub record Copied (e : ℕ) (links ends ends' : List ℕ) : Type 0 where
  pub from : (k : ℕ) → k < e → end_in ends' 0 k ≡ end_of links 0 k
  pub to : (k : ℕ) → k < e → end_in ends' 1 k ≡ end_of links 4 k
  pub rest : (i : ℕ) → 2 * e ≤ i → get_or ends' i 0 ≡ get_or ends i 0
  pub long : length ends' ≡ length ends

-- what reading amounts asks
pub record Takable (e : ℕ) (amounts x : List ℕ) : Type 0 where
  pub few : e ≤ link_limit
  pub amounts_long : LinksWithin e amounts
  pub room : e ≤ length x

-- the list afterwards: the first e amounts of the lent bytes, and the rest as before
pub record Taken (e : ℕ) (amounts x x' : List ℕ) : Type 0 where
  pub at : (k : ℕ) → k < e → get_or x' k 0 ≡ amounts_of amounts k
  pub rest : (i : ℕ) → e ≤ i → get_or x' i 0 ≡ get_or x i 0
  pub long : length x' ≡ length x

-- what writing amounts asks
pub record Puttable (e : ℕ) (x amounts : List ℕ) : Type 0 where
  pub few : e ≤ link_limit
  pub long : e ≤ length x
  pub room : LinksWithin e amounts

-- the lent bytes afterwards: the first e amounts are those of the list, and the rest is as before
pub record Put (e : ℕ) (x amounts amounts' : List ℕ) : Type 0 where
  pub at : (k : ℕ) → k < e → amounts_of amounts' k ≡ get_or x k 0
  pub rest : (i : ℕ) → entry_bytes * e ≤ i → get_or amounts' i 0 ≡ get_or amounts i 0
  pub long : length amounts' ≡ length amounts
