-- The set that drains, as it grows: groups join one after the other, each of which can pay into one that joined before.
use Rattle.std.specs.Prelude.{ℕ, ◌+◌, ◌-◌, ◌*◌, ◌<◌, ◌≤◌, ◌≡◌, List, length, get_or, set}
use Rattle.survey.specs.Limits.{group_limit, link_limit}
use Rattle.survey.specs.Survey.{Survey}
use Rattle.survey.specs.Sets.{Set, In, Contains, sum}
use Rattle.survey.specs.Balance.{Amounts}
use Rattle.survey.specs.Words.{marked_set, amounts_of}
use Rattle.survey.specs.Draining.{Obeys}
use Rattle.bits.specs.Bits.{digit, bit}
use Rattle.flow.specs.Links.{end_of, Given, LinksWithin}
use Rattle.flow.specs.Ways.{Way}

-- a survey of the size that the working arrays have, whose links lie within the list and end in groups
pub record Net (n e : ℕ) (links : List ℕ) : Type 0 where
  pub few_groups : n ≤ group_limit
  pub few_links : e ≤ link_limit
  pub links_long : LinksWithin e links
  pub from : (k : ℕ) → k < e → end_of links 0 k < n
  pub to : (k : ℕ) → k < e → end_of links 4 k < n

-- ---- the order of joining

-- c groups have joined: those that t marks, each at one place of the order; the others are marked 0
pub record Placed (n : ℕ) (t order : List ℕ) (c : ℕ) : Type 0 where
  pub group : (i : ℕ) → i < c → get_or order i 0 < n
  pub marked : (i : ℕ) → i < c → get_or t (get_or order i 0) 0 ≡ 1
  pub once : (i j : ℕ) → i < j → j < c → get_or order i 0 ≡ get_or order j 0 → ⊥
  pub cover : (g : ℕ) → g < n → get_or t g 0 ≡ 1 → (i : ℕ) × (i < c) × (get_or order i 0 ≡ g)
  pub bits : (g : ℕ) → g < n → get_or t g 0 ≤ 1
  pub count : c + sum n (λ g. 1 - get_or t g 0) ≡ n

-- the group at place i stands in the row of one at an earlier place
pub record InRow (ways order : List ℕ) (i : ℕ) : Type 0 where
  pub earlier : ℕ
  pub before : earlier < i
  pub has : bit ways (get_or order earlier 0) (get_or order i 0) ≡ 1

-- so there is a link through which it can pay into that one
pub record Hop (s : Survey) (x : Amounts) (order : List ℕ) (i : ℕ) : Type 0 where
  pub link : ℕ
  pub within : link < s.e
  pub earlier : ℕ
  pub before : earlier < i
  pub way : Way s x link (get_or order i 0) (get_or order earlier 0)

-- ---- who begins it

pub record Beginnable (g : ℕ) (t order : List ℕ) (c : ℕ) : Type 0 where
  pub few : g < group_limit
  pub within : g < length t
  pub room : c < length order
  pub few_begun : c < group_limit

pub record BeginRoom (n : ℕ) (la t order : List ℕ) : Type 0 where
  pub few : n ≤ group_limit
  pub la_long : n ≤ length la
  pub t_long : n ≤ length t
  pub order_long : n ≤ length order

-- the mark of a group with the lack a, as the draining begins
pub data FirstMark (a : ℕ) : ℕ → Type 0 where
  lacking : 0 < a → FirstMark a 1
  level : a ≡ 0 → FirstMark a 0

-- group g is looked at as the draining begins: it is marked, and stands at place c, which is still free where the mark is 0
pub record Begins (g a : ℕ) (t order : List ℕ) (c : ℕ) (t' order' : List ℕ) (c' : ℕ) : Type 0 where
  pub mark : ℕ
  pub first : FirstMark a mark
  pub marks : t' ≡ set t g mark
  pub place : order' ≡ set order c g
  pub count : c' ≡ c + mark

-- The groups with a lack begin it: they stand at the first c places, and nobody else.
pub record Begun (n : ℕ) (la t order t' order' : List ℕ) (c : ℕ) : Type 0 where
  pub placed : Placed n t' order' c
  pub starts : (i : ℕ) → i < c → 0 < get_or la (get_or order' i 0) 0
  pub holds : (g : ℕ) → g < n → 0 < get_or la g 0 → get_or t' g 0 ≡ 1
  pub rest : (g : ℕ) → n ≤ g → get_or t' g 0 ≡ get_or t g 0
  pub t_long : length t' ≡ length t
  pub order_long : length order' ≡ length order

-- ---- who has not joined yet: the others, as one row of bits

pub record Others (n : ℕ) (t others : List ℕ) : Type 0 where
  pub each : (g : ℕ) → g < n → bit others 0 g + get_or t g 0 ≡ 1

-- what taking the first c groups of an order out of a row asks
pub record OthersAsk (order : List ℕ) (c : ℕ) (others : List ℕ) : Type 0 where
  pub few : c ≤ group_limit
  pub order_long : c ≤ length order
  pub group : (i : ℕ) → i < c → get_or order i 0 < group_limit
  pub room : 2 ≤ length others

pub record OthersOf (order : List ℕ) (c : ℕ) (others others' : List ℕ) : Type 0 where
  pub taken : (i : ℕ) → i < c → bit others' 0 (get_or order i 0) ≡ 0
  pub left : (g : ℕ) → g < group_limit → ((i : ℕ) → i < c → get_or order i 0 ≡ g → ⊥) → bit others' 0 g ≡ bit others 0 g
  pub long : length others' ≡ length others

-- ---- who joins: the groups of a word, which are those of one half of a row

-- each group of word w, of this half, is one of the survey and has not joined
pub record Joinable (n half w : ℕ) (t order : List ℕ) (c : ℕ) : Type 0 where
  pub few : n ≤ group_limit
  pub which : half ≤ 1
  pub fresh : (i : ℕ) → i < 64 → digit w i ≡ 1 → (64 * half + i < n) × (get_or t (64 * half + i) 0 ≡ 0)
  pub placed : Placed n t order c
  pub t_long : n ≤ length t
  pub order_long : n ≤ length order

-- They have joined, and nobody else.
pub record Joined (n half w : ℕ) (t order : List ℕ) (c : ℕ) (t' order' : List ℕ) (c' : ℕ) : Type 0 where
  pub placed : Placed n t' order' c'
  pub more : c ≤ c'
  pub order_same : (i : ℕ) → i < c → get_or order' i 0 ≡ get_or order i 0
  pub new : (j : ℕ) → c ≤ j → j < c' → (i : ℕ) × (i < 64) × (get_or order' j 0 ≡ 64 * half + i) × (digit w i ≡ 1)
  pub here : (i : ℕ) → i < 64 → get_or t' (64 * half + i) 0 ≡ get_or t (64 * half + i) 0 + digit w i
  pub else : (g : ℕ) → ((i : ℕ) → i < 64 → g ≡ 64 * half + i → ⊥) → get_or t' g 0 ≡ get_or t g 0
  pub t_long : length t' ≡ length t
  pub order_long : length order' ≡ length order

-- ---- growing

-- the growing from c groups to c': who had joined stands where it stood, and each newcomer stands in the row of one that joined before
pub record Grew (n : ℕ) (ways t order : List ℕ) (c : ℕ) (t' order' : List ℕ) (c' : ℕ) : Type 0 where
  pub placed : Placed n t' order' c'
  pub more : c ≤ c'
  pub order_same : (i : ℕ) → i < c → get_or order' i 0 ≡ get_or order i 0
  pub rows : (i : ℕ) → c ≤ i → i < c' → InRow ways order' i
  pub marks : (g : ℕ) → get_or t g 0 ≡ 1 → get_or t' g 0 ≡ 1
  pub rest : (g : ℕ) → n ≤ g → get_or t' g 0 ≡ get_or t g 0
  pub t_long : length t' ≡ length t
  pub order_long : length order' ≡ length order

-- what growing asks: a row for each group, of groups, and a place for each
pub record Growable (n : ℕ) (ways t order : List ℕ) (c : ℕ) : Type 0 where
  pub few : n ≤ group_limit
  pub ways_long : 2 * n ≤ length ways
  pub inside : (p g : ℕ) → g < group_limit → bit ways p g ≡ 1 → g < n
  pub placed : Placed n t order c
  pub t_long : n ≤ length t
  pub order_long : n ≤ length order

-- with who has not joined yet
pub record Growing (n : ℕ) (ways others t order : List ℕ) (c : ℕ) : Type 0 where
  pub growable : Growable n ways t order c
  pub who : Others n t others
  pub room : 2 ≤ length others

-- p has joined, and one half of its row is to be seen to
pub record Seeable (n p half : ℕ) (ways others t order : List ℕ) (c : ℕ) : Type 0 where
  pub growing : Growing n ways others t order c
  pub below : p < n
  pub joined : get_or t p 0 ≡ 1
  pub which : half ≤ 1

-- who stands in that half of the row has joined
pub record SawHalf (n p half : ℕ) (ways others t order : List ℕ) (c : ℕ) (others' t' order' : List ℕ) (c' : ℕ) : Type 0 where
  pub grew : Grew n ways t order c t' order' c'
  pub seen : (i : ℕ) → i < 64 → bit ways p (64 * half + i) ≡ 1 → get_or t' (64 * half + i) 0 ≡ 1
  pub who : Others n t' others'
  pub long : length others' ≡ length others

-- growing until the row of each group that joined has been seen to
pub record Grown (n : ℕ) (ways t order : List ℕ) (c : ℕ) (t' order' : List ℕ) (c' : ℕ) : Type 0 where
  pub grew : Grew n ways t order c t' order' c'
  pub closed : (p g : ℕ) → p < n → g < n → get_or t' p 0 ≡ 1 → bit ways p g ≡ 1 → get_or t' g 0 ≡ 1

-- ---- the least set

-- no smaller set than T has all groups with a lack in it and obeys both rules
pub record Least (s : Survey) (x : Amounts) (la : ℕ → ℕ) (T : Set) : Type 0 where
  pub obeys : Obeys s x T
  pub holds : (g : ℕ) → g < s.n → 0 < la g → In T g
  pub least : (U : Set) → Obeys s x U → ((g : ℕ) → g < s.n → 0 < la g → In U g) → Contains s U T

-- what `drained` asks
pub record Drainable (n e : ℕ) (links amounts lack t : List ℕ) : Type 0 where
  pub net : Net n e links
  pub amounts_long : LinksWithin e amounts
  pub lack_long : n ≤ length lack
  pub t_long : n ≤ length t

-- what `drained` promises: the marks below n are those of the least set, and the rest of the list is as before
pub record Drained (n e : ℕ) (links amounts lack t t' : List ℕ) : Type 0 where
  pub least : (s : Survey) → Given s n e links → Least s (amounts_of amounts) (λ g. get_or lack g 0) (marked_set t')
  pub bits : (g : ℕ) → g < n → get_or t' g 0 ≤ 1
  pub rest : (g : ℕ) → n ≤ g → get_or t' g 0 ≡ get_or t g 0
  pub long : length t' ≡ length t
