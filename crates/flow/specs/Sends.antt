-- One send: a group with an excess pays through a link, or gives back what the link brought it, and the one at the other end has so much more.
use Rattle.std.specs.Prelude.{ℕ, ◌+◌, ◌-◌, ◌*◌, ◌^◌, ◌<◌, ◌≤◌, ◌≡◌, min, List, length, get_or, set}
use Rattle.survey.specs.Limits.{amount_limit}
use Rattle.survey.specs.Survey.{Survey, Cycle}
use Rattle.survey.specs.Sets.{all_groups}
use Rattle.survey.specs.Rounds.{Weights, total_plus}
use Rattle.survey.specs.Balance.{Amounts, excess, lack}
use Rattle.flow.specs.Copies.{end_in, copied, flowing, Copy}

-- ---- the state: amounts, excess and lack

-- the two lists have the two halves of each balance
pub record Balanced (s : Survey) (w : Weights) (x : Amounts) (ex la : List ℕ) : Type 0 where
  pub above : (g : ℕ) → g < s.n → get_or ex g 0 ≡ excess s w x g
  pub below : (g : ℕ) → g < s.n → get_or la g 0 ≡ lack s w x g

-- the state comes from weights whose total plus is small, and no lack is above its minus: so nothing wraps
pub record Safe (n e : ℕ) (ends amounts ex la : List ℕ) : Type 0 where
  pub weights : Weights
  pub balanced : Balanced (copied n e ends) weights (flowing amounts) ex la
  pub lean : (g : ℕ) → g < n → get_or la g 0 ≤ weights.minus g
  pub small : total_plus (copied n e ends) weights all_groups ≤ amount_limit

-- a copy whose links have no cycle, and of which no two are the same
pub record Chart (n e : ℕ) (ends : List ℕ) : Type 0 where
  pub net : Copy n e ends
  pub no_cycle : Cycle (copied n e ends) → ⊥
  pub once : (j k : ℕ) → j < e → k < e → end_in ends 0 j ≡ end_in ends 0 k → end_in ends 1 j ≡ end_in ends 1 k → j ≡ k

-- a state with a place for each link and group, from which nothing wraps
pub record Afloat (n e : ℕ) (ends amounts ex la : List ℕ) : Type 0 where
  pub amounts_long : e ≤ length amounts
  pub ex_long : n ≤ length ex
  pub la_long : n ≤ length la
  pub safe : Safe n e ends amounts ex la

pub record Course (n e : ℕ) (ends amounts ex la : List ℕ) : Type 0 where
  pub chart : Chart n e ends
  pub afloat : Afloat n e ends amounts ex la

-- ---- what a send does

-- what p has when it gets d: it loses lack first, and the rest is its excess
abbrev pub with_less : List ℕ → ℕ → ℕ → List ℕ
with_less la p d = set la p (get_or la p 0 - d)

abbrev pub with_more : List ℕ → List ℕ → ℕ → ℕ → List ℕ
with_more ex la p d = set ex p (get_or ex p 0 + (d - get_or la p 0))

pub record Receivable (p d : ℕ) (ex la : List ℕ) : Type 0 where
  pub ex_within : p < length ex
  pub la_within : p < length la
  pub fits : get_or ex p 0 + (d - get_or la p 0) < 2 ^ 64

pub record Receives (p d : ℕ) (ex la ex' la' : List ℕ) : Type 0 where
  pub more : ex' ≡ with_more ex la p d
  pub less : la' ≡ with_less la p d

-- group g gives d of its excess to p, and link k has y then
pub record Movable (k g p d : ℕ) (amounts ex la : List ℕ) : Type 0 where
  pub apart : p ≡ g → ⊥
  pub has : d ≤ get_or ex g 0
  pub ex_within : g < length ex
  pub amount_within : k < length amounts
  pub receivable : Receivable p d ex la

pub record Moves (k g p d y : ℕ) (amounts ex la amounts' ex' la' : List ℕ) : Type 0 where
  pub amount : amounts' ≡ set amounts k y
  pub more : ex' ≡ with_more (set ex g (get_or ex g 0 - d)) la p d
  pub less : la' ≡ with_less la p d

-- what a group takes of x, by its mark: one that began the wave, which is marked 3, at most its lack, so that it has nothing to give back in the
-- next wave; any other all of it
pub data Takes (mark lack x d : ℕ) : Type 0 where
  capped : mark ≡ 3 → d ≡ min x lack → Takes mark lack x d
  free : (mark ≡ 3 → ⊥) → d ≡ x → Takes mark lack x d

-- p has a place in the lists of marks and of lacks
pub record End (p : ℕ) (la t : List ℕ) : Type 0 where
  pub la_within : p < length la
  pub t_within : p < length t

-- what a send of g through link k asks: its entry lies within the lists, and what either kind of send brings fits
pub record Sendable (k g : ℕ) (ends amounts ex la t : List ℕ) : Type 0 where
  pub link_within : 2 * k + 2 ≤ length ends
  pub from : End (end_in ends 0 k) la t
  pub to : End (end_in ends 1 k) la t
  pub amount_fits : end_in ends 1 k ≡ g → flowing amounts k + get_or ex g 0 < 2 ^ 64
  pub pays : end_in ends 1 k ≡ g → (d : ℕ) → d ≤ get_or ex g 0 → Movable k g (end_in ends 0 k) d amounts ex la
  pub gives : (end_in ends 1 k ≡ g → ⊥) → (d : ℕ) → d ≤ get_or ex g 0 → d ≤ flowing amounts k → Movable k g (end_in ends 1 k) d amounts ex la
  pub ex_within : g < length ex
  pub amount_within : k < length amounts

-- what p takes of x
abbrev pub TakenBy : ℕ → List ℕ → List ℕ → ℕ → ℕ → Type 0
TakenBy p la t x d = Takes (get_or t p 0) (get_or la p 0) x d

-- The send: where g is the link's to, it pays what the other end takes of its excess, and the amount grows by that; where it is the from, it gives
-- back what the other end takes of what it can give of the amount, which falls by that.
pub data Sends (k g : ℕ) (ends amounts ex la t amounts' ex' la' : List ℕ) : Type 0 where
  paid :
      end_in ends 1 k ≡ g → (d : ℕ) → TakenBy (end_in ends 0 k) la t (get_or ex g 0) d → Moves k g (end_in ends 0 k) d (flowing amounts k + d) amounts ex la amounts' ex' la'
      → Sends k g ends amounts ex la t amounts' ex' la'
  gave :
      (end_in ends 1 k ≡ g → ⊥) → (d : ℕ) → TakenBy (end_in ends 1 k) la t (min (get_or ex g 0) (flowing amounts k)) d
      → Moves k g (end_in ends 1 k) d (flowing amounts k - d) amounts ex la amounts' ex' la' → Sends k g ends amounts ex la t amounts' ex' la'
