-- Chains: an index of the links by their ends. From a group, its head is the first link with that end there, and from a link, its next is the
-- next one with the same end; e where there is none.
use Rattle.std.specs.Prelude.{ℕ, ◌+◌, ◌*◌, ◌<◌, ◌≤◌, ◌≡◌, List, length, get_or}
use Rattle.survey.specs.Limits.{group_limit, link_limit}
use Rattle.flow.specs.Copies.{end_in}

-- of the links from j on, k is the first that ends at g, or is e where none does
pub record IsNext (e : ℕ) (ends : ℕ → ℕ) (g j k : ℕ) : Type 0 where
  pub from : j ≤ k
  pub within : k ≤ e
  pub hit : k < e → ends k ≡ g
  pub first : (i : ℕ) → j ≤ i → i < k → ends i ≡ g → ⊥

-- The chains of both ends stand in one list: of each end a head for each group, and after these of each end a next for each link.
abbrev pub head_at : ℕ → ℕ → ℕ
head_at end g = group_limit * end + g

abbrev pub next_at : ℕ → ℕ → ℕ
next_at end k = 2 * group_limit + link_limit * end + k

-- the index of the links of a survey by one of their ends
pub record Index (n e end : ℕ) (ends : ℕ → ℕ) (chains : List ℕ) : Type 0 where
  pub heads : (g : ℕ) → g < n → IsNext e ends g 0 (get_or chains (head_at end g) 0)
  pub nexts : (k : ℕ) → k < e → IsNext e ends (ends k) (k + 1) (get_or chains (next_at end k) 0)
  pub long : next_at 2 0 ≤ length chains

-- what building the chains of an end asks: each end is a group, whose chain is empty
pub record Chainable (ends : List ℕ) (n e end : ℕ) (chains : List ℕ) : Type 0 where
  pub few_groups : n ≤ group_limit
  pub few_links : e ≤ link_limit
  pub small : end ≤ 1
  pub ends_long : 2 * e ≤ length ends
  pub long : next_at 2 0 ≤ length chains
  pub below : (k : ℕ) → k < e → end_in ends end k < n
  pub empty : (g : ℕ) → g < n → get_or chains (head_at end g) 0 ≡ e

-- a place that is neither a head nor a next of this end
pub record Aside (end i : ℕ) : Type 0 where
  pub no_head : (g : ℕ) → g < group_limit → i ≡ head_at end g → ⊥
  pub no_next : (k : ℕ) → k < link_limit → i ≡ next_at end k → ⊥

pub record Chained (ends : List ℕ) (n e end : ℕ) (chains chains' : List ℕ) : Type 0 where
  pub index : Index n e end (end_in ends end) chains'
  pub else : (i : ℕ) → Aside end i → get_or chains' i 0 ≡ get_or chains i 0
  pub long : length chains' ≡ length chains
