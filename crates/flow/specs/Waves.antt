-- Waves: one after the other, until no group that drains has an excess.
use Rattle.std.specs.Prelude.{ℕ, ◌+◌, ◌-◌, ◌*◌, ◌%◌, ◌<◌, ◌≤◌, ◌≡◌, ◌⊎◌, Bool, true, false, List, length, get_or, eqb}
use Rattle.survey.specs.Limits.{group_limit}
use Rattle.survey.specs.Sets.{Set, In, sum, only, outside}
use Rattle.survey.specs.Rounds.{Weights}
use Rattle.flow.specs.Copies.{end_in, copied, flowing}
use Rattle.flow.specs.Ways.{Way, Ways, Notable, Noted}
use Rattle.flow.specs.Drains.{Hop, Least}
use Rattle.flow.specs.Sends.{Balanced, Afloat, Course, Sendable, Sends}

-- The state has changed by sends: whatever weights it was balanced for, it still is; no lack rises; and nothing changes beyond the survey.
pub record Flowed (n e : ℕ) (ends amounts ex la amounts' ex' la' : List ℕ) : Type 0 where
  pub keeps : (w : Weights) → Balanced (copied n e ends) w (flowing amounts) ex la → Balanced (copied n e ends) w (flowing amounts') ex' la'
  pub falls : (g : ℕ) → get_or la' g 0 ≤ get_or la g 0
  pub amounts_long : length amounts' ≡ length amounts
  pub ex_long : length ex' ≡ length ex
  pub la_long : length la' ≡ length la
  pub ex_rest : (g : ℕ) → n ≤ g → get_or ex' g 0 ≡ get_or ex g 0
  pub la_rest : (g : ℕ) → n ≤ g → get_or la' g 0 ≡ get_or la g 0

-- the rows of bits are the ways as the amounts are
pub record Rows (n e : ℕ) (ends amounts ways : List ℕ) : Type 0 where
  pub right : Ways (copied n e ends) (flowing amounts) e ways
  pub long : 2 * n ≤ length ways

-- The state has run on: it has flowed, and the rows are the ways still.
pub record Ran (n e : ℕ) (ends amounts ex la ways amounts' ex' la' ways' : List ℕ) : Type 0 where
  pub flowed : Flowed n e ends amounts ex la amounts' ex' la'
  pub rows : Rows n e ends amounts ways → Rows n e ends amounts' ways'
  pub long : length ways' ≡ length ways

-- the total lack
abbrev pub lacks : ℕ → List ℕ → ℕ
lacks n la = sum n (λ g. get_or la g 0)

-- the groups that are marked 0; of a group that drains the mark is 1, or 3 where it began the wave, and 2 once the wave has passed it
abbrev pub unmarked : List ℕ → Set
unmarked t g = eqb (get_or t g 0) 0

-- The marks change among those that aren't 0.
pub record Remarked (n : ℕ) (t t' : List ℕ) : Type 0 where
  pub same : (g : ℕ) → unmarked t' g ≡ unmarked t g
  pub rest : (g : ℕ) → n ≤ g → get_or t' g 0 ≡ get_or t g 0
  pub long : length t' ≡ length t

-- a group is still to come: its mark is 1 or 3
abbrev pub Coming : List ℕ → ℕ → Type 0
Coming t g = get_or t g 0 % 2 ≡ 1

-- each group that is still to come stands before place i of the order
pub record Ahead (n : ℕ) (t order : List ℕ) (i : ℕ) : Type 0 where
  pub at : (g : ℕ) → g < n → Coming t g → (j : ℕ) × (j < i) × (get_or order j 0 ≡ g)

-- ---- the turn of group g: it sends what it can to groups that are still to come

-- a lack has fallen; or one that began the wave has none any more; or no lack has changed, and a group that is still to come has an excess
pub data Passed (n : ℕ) (la ex' la' t : List ℕ) : Type 0 where
  fallen : lacks n la' < lacks n la → Passed n la ex' la' t
  full : (h : ℕ) → h < n → get_or t h 0 ≡ 3 → get_or la' h 0 ≡ 0 → Passed n la ex' la' t
  onward : ((h : ℕ) → get_or la' h 0 ≡ get_or la h 0) → (h : ℕ) → h < n → Coming t h → 0 < get_or ex' h 0 → Passed n la ex' la' t

-- only amounts on links from g have fallen
abbrev pub Rises : ℕ → List ℕ → List ℕ → List ℕ → Type 0
Rises g ends amounts amounts' = (k : ℕ) → (end_in ends 0 k ≡ g → ⊥) → flowing amounts k ≤ flowing amounts' k

-- what a send through link k, which takes at least so much, asks where the other end, q, is still to come
pub record Offerable (k g q least : ℕ) (ends amounts ex la ways t : List ℕ) : Type 0 where
  pub q_within : q < length t
  pub amount_within : k < length amounts
  pub link_within : 2 * k + 2 ≤ length ends
  pub sendable : Coming t q → least ≤ flowing amounts k → Sendable k g ends amounts ex la t
  pub notable : Notable (end_in ends 0 k) (end_in ends 1 k) ways

pub data Offered (k g q least : ℕ) (ends amounts ex la ways t : List ℕ) : List ℕ → List ℕ → List ℕ → List ℕ → Type 0 where
  kept : (Coming t q → least ≤ flowing amounts k → ⊥) → Offered k g q least ends amounts ex la ways t amounts ex la ways
  took :
      {amounts' ex' la' ways' : List ℕ} → Coming t q → least ≤ flowing amounts k → Sends k g ends amounts ex la t amounts' ex' la'
      → Noted (end_in ends 0 k) (end_in ends 1 k) (flowing amounts' k) ways ways' → Offered k g q least ends amounts ex la ways t amounts' ex' la' ways'

-- the least amount of a link through which g sends: paying takes any, giving back one above 0
abbrev pub least_for : ℕ → ℕ
least_for end = only (eqb end 0) 1

-- along one of the chains of g
pub record Spillable (n e end g : ℕ) (ends amounts ex la ways t : List ℕ) : Type 0 where
  pub afloat : Afloat n e ends amounts ex la
  pub rows : Rows n e ends amounts ways
  pub below : g < n
  pub which : (end ≡ 0) ⊎ (end ≡ 1)
  pub t_long : n ≤ length t

-- through link k of g, by that end, there is something to send
pub record Passage (end g : ℕ) (ends amounts t : List ℕ) (k : ℕ) : Type 0 where
  pub hit : end_in ends end k ≡ g
  pub coming : Coming t (end_in ends (1 - end) k)
  pub least : least_for end ≤ flowing amounts k

-- along the links before m: nothing was sent, since no link takes anything; or something was
pub data Spilled (n e m end g : ℕ) (ends amounts ex la ways t : List ℕ) : List ℕ → List ℕ → List ℕ → List ℕ → Type 0 where
  none : (0 < get_or ex g 0 → (k : ℕ) → k < m → Passage end g ends amounts t k → ⊥) → Spilled n e m end g ends amounts ex la ways t amounts ex la ways
  some :
      {amounts' ex' la' ways' : List ℕ} → Ran n e ends amounts ex la ways amounts' ex' la' ways' → Rises g ends amounts amounts' → Passed n la ex' la' t
      → Spilled n e m end g ends amounts ex la ways t amounts' ex' la' ways'

-- g can pay into p, which is still to come, through link k
pub record Turnable (n e g : ℕ) (ends amounts ex la ways t : List ℕ) : Type 0 where
  pub afloat : Afloat n e ends amounts ex la
  pub rows : Rows n e ends amounts ways
  pub below : g < n
  pub k : ℕ
  pub link : k < e
  pub p : ℕ
  pub way : Way (copied n e ends) (flowing amounts) k g p
  pub mark : Coming t p
  pub t_long : n ≤ length t

-- it had nothing to send and nothing changes; or it has sent
pub data Turned (n e g : ℕ) (ends amounts ex la ways t : List ℕ) : List ℕ → List ℕ → List ℕ → List ℕ → Bool → Type 0 where
  rests : get_or ex g 0 ≡ 0 → Turned n e g ends amounts ex la ways t amounts ex la ways false
  sent :
      {amounts' ex' la' ways' : List ℕ} → Ran n e ends amounts ex la ways amounts' ex' la' ways' → Rises g ends amounts amounts' → Passed n la ex' la' t
      → Turned n e g ends amounts ex la ways t amounts' ex' la' ways' true

-- ---- the groups that began the wave, at the first places of the order, are marked 3

pub record Apartable (t order : List ℕ) (c : ℕ) : Type 0 where
  pub few : c ≤ group_limit
  pub order_long : c ≤ length order
  pub group : (i : ℕ) → i < c → get_or order i 0 < group_limit
  pub within : (i : ℕ) → i < c → get_or order i 0 < length t

pub record SetApart (t order : List ℕ) (c : ℕ) (t' : List ℕ) : Type 0 where
  pub three : (i : ℕ) → i < c → get_or t' (get_or order i 0) 0 ≡ 3
  pub each : (h : ℕ) → (get_or t' h 0 ≡ get_or t h 0) ⊎ ((i : ℕ) × (i < c) × (get_or order i 0 ≡ h))
  pub long : length t' ≡ length t

-- ---- all turns, back through the order to the groups that began it

pub record Pourable (n e : ℕ) (ends amounts ex la ways t order : List ℕ) (started count : ℕ) : Type 0 where
  pub afloat : Afloat n e ends amounts ex la
  pub rows : Rows n e ends amounts ways
  pub more : started ≤ count
  pub most : count ≤ n
  pub group : (j : ℕ) → j < count → get_or order j 0 < n
  pub once : (i j : ℕ) → i < j → j < count → get_or order i 0 ≡ get_or order j 0 → ⊥
  pub starts : (j : ℕ) → j < started → 0 < get_or la (get_or order j 0) 0
  pub hops : (j : ℕ) → started ≤ j → j < count → Hop (copied n e ends) (flowing amounts) order j
  pub began : (h : ℕ) → h < n → get_or t h 0 ≡ 3 → 0 < get_or la h 0
  pub marked : (j : ℕ) → j < count → Coming t (get_or order j 0)
  pub ahead : Ahead n t order count
  pub t_long : n ≤ length t
  pub order_long : n ≤ length order

-- no group sent: nothing has changed, and none after those that began it has an excess
pub record Still (amounts ex la order : List ℕ) (started count : ℕ) (amounts' ex' la' : List ℕ) : Type 0 where
  pub amounts_same : amounts' ≡ amounts
  pub ex_same : ex' ≡ ex
  pub la_same : la' ≡ la
  pub dry : (j : ℕ) → started ≤ j → j < count → get_or ex (get_or order j 0) 0 ≡ 0

pub record Poured (n e : ℕ) (ends amounts ex la ways t order : List ℕ) (started count : ℕ) (amounts' ex' la' ways' t' : List ℕ) (r : Bool) : Type 0 where
  pub ran : Ran n e ends amounts ex la ways amounts' ex' la' ways'
  pub remarked : Remarked n t t'
  pub still : r ≡ false → Still amounts ex la order started count amounts' ex' la'
  pub fell : r ≡ true → lacks n la' < lacks n la

-- ---- a wave, and all waves

pub record WavesAsk (n e : ℕ) (ends amounts ex la ways t : List ℕ) : Type 0 where
  pub afloat : Afloat n e ends amounts ex la
  pub rows : Rows n e ends amounts ways
  pub t_long : n ≤ length t

pub record Wavable (n e : ℕ) (ends amounts ex la ways t order : List ℕ) : Type 0 where
  pub ask : WavesAsk n e ends amounts ex la ways t
  pub order_long : n ≤ length order

-- what the marks say is done: those that aren't 0 are the least set that drains, and it has no excess
pub record Dry (n e : ℕ) (ends amounts ex la t : List ℕ) : Type 0 where
  pub least : Least (copied n e ends) (flowing amounts) (λ g. get_or la g 0) (outside (unmarked t))
  pub dry : (g : ℕ) → g < n → In (outside (unmarked t)) g → get_or ex g 0 ≡ 0

pub record Waved (n e : ℕ) (ends amounts ex la ways t amounts' ex' la' ways' t' : List ℕ) : Type 0 where
  pub ran : Ran n e ends amounts ex la ways amounts' ex' la' ways'
  pub rest : (g : ℕ) → n ≤ g → get_or t' g 0 ≡ get_or t g 0
  pub long : length t' ≡ length t

pub record WavedOnce (n e : ℕ) (ends amounts ex la ways t order amounts' ex' la' ways' t' order' : List ℕ) (r : Bool) : Type 0 where
  pub waved : Waved n e ends amounts ex la ways t amounts' ex' la' ways' t'
  pub order_long : length order' ≡ length order
  pub done : r ≡ false → Dry n e ends amounts' ex' la' t'
  pub fell : r ≡ true → lacks n la' < lacks n la

pub record WavedAll (n e : ℕ) (ends amounts ex la ways t amounts' ex' la' ways' t' : List ℕ) : Type 0 where
  pub waved : Waved n e ends amounts ex la ways t amounts' ex' la' ways' t'
  pub done : Dry n e ends amounts' ex' la' t'

-- ---- all waves, with what they go by

pub record WavesStart (n e : ℕ) (ends amounts ex la t : List ℕ) : Type 0 where
  pub course : Course n e ends amounts ex la
  pub t_long : n ≤ length t

pub record WavesEnd (n e : ℕ) (ends amounts ex la t amounts' ex' la' t' : List ℕ) : Type 0 where
  pub flowed : Flowed n e ends amounts ex la amounts' ex' la'
  pub rest : (g : ℕ) → n ≤ g → get_or t' g 0 ≡ get_or t g 0
  pub long : length t' ≡ length t
  pub done : Dry n e ends amounts' ex' la' t'
