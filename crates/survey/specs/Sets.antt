-- Specification 4, "Sets": sets of groups, closed ones, and their sums.
use Rattle.std.specs.Prelude.{ℕ, zero, suc, ◌+◌, ◌<◌, ◌≡◌, Bool, true, false, ◌&&◌, ◌||◌, not}
use Rattle.survey.specs.Survey.{Group, Survey}

-- 4.1: a set says of each group whether it is in. What it says of numbers from n on is ignored.
abbrev pub Set : Type 0
Set = ℕ → Bool

-- 4.1: g is in the set
abbrev pub In : Set → ℕ → Type 0
In S g = S g ≡ true

-- 4.1: g is not
abbrev pub Out : Set → ℕ → Type 0
Out S g = S g ≡ false

-- 4.1: the set of all groups
abbrev pub all_groups : Set
all_groups g = true

-- 4.1: the empty set
abbrev pub no_group : Set
no_group g = false

-- 4.1: the union of two sets
abbrev pub union : Set → Set → Set
union A B g = A g || B g

-- 4.1: what two sets share
abbrev pub meet : Set → Set → Set
meet A B g = A g && B g

-- 4.1: what is outside of a set
abbrev pub outside : Set → Set
outside S g = not (S g)

-- 4.1: A contains B if A has every group of the survey that B has.
pub record Contains (s : Survey) (A B : Set) : Type 0 where
  pub has : (g : ℕ) → g < s.n → In B g → In A g

-- 4.1: A and B are the same if they agree on the groups of the survey.
pub record Same (s : Survey) (A B : Set) : Type 0 where
  pub at : (g : ℕ) → g < s.n → A g ≡ B g

-- 4.2: a closed set, into which no link comes from outside. Where a link's to is in the set, so is its from.
pub record Closed (s : Survey) (S : Set) : Type 0 where
  pub back : (k : ℕ) → k < s.e → In S (s.link k).to → In S (s.link k).from

-- 4.3: the sets that may be picked, which are the closed ones
pub record Eligible (s : Survey) (S : Set) : Type 0 where
  pub closed : Closed s S

-- 4.4: f 0 + f 1 + .. up to f (n - 1)
unfoldable pub sum : ℕ → (ℕ → ℕ) → ℕ
sum zero f = 0
sum (suc n) f = sum n f + f n

-- 4.4: x where the test holds, else 0
abbrev pub only : Bool → ℕ → ℕ
only true x = x
only false x = 0

-- 4.4: the sum of f over the groups of the survey that are in S
unfoldable pub total : Survey → (ℕ → ℕ) → Set → ℕ
total s f S = sum s.n (λ g. only (S g) (f g))

-- 4.4: what a group costs is its live count, and to open it adds nothing to that.
abbrev pub cost : Group → ℕ
cost g = g.live

-- 4.4: the dead count of group g
abbrev pub dead_of : Survey → ℕ → ℕ
dead_of s g = (s.group g).dead

-- 4.4: the cost of group g
abbrev pub cost_of : Survey → ℕ → ℕ
cost_of s g = cost (s.group g)

-- 4.4: D adds up the dead counts of the groups in a set.
abbrev pub D : Survey → Set → ℕ
D s S = total s (dead_of s) S

-- 4.4: L adds up their costs.
abbrev pub L : Survey → Set → ℕ
L s S = total s (cost_of s) S
