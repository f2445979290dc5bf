-- The cycle test's working list: a small tally of each group.
use Rattle.std.specs.Prelude.{ℕ, ◌+◌, ◌-◌, ◌<◌, ◌≡◌, List, get_or}
use Rattle.cycles.specs.declared.tallies.Tally.{Tally}

-- the first number too large for a tally
abbrev pub tally_limit : ℕ
tally_limit = 65_536

abbrev pub blank_tally : Tally
blank_tally = record { count = 0; first = 0 }

-- how many links into the group are left, or, where none is, the next group of the stack
unfoldable pub count_of : List Tally → ℕ → ℕ
count_of w g = (get_or w g blank_tally).count

-- the first link that starts at the group
unfoldable pub first_of : List Tally → ℕ → ℕ
first_of w g = (get_or w g blank_tally).first

pub record Blank (w : List Tally) : Type 0 where
  pub zero : (g : ℕ) → count_of w g ≡ 0

-- at g stands x now, and elsewhere what stood there
pub record Put (f f' : ℕ → ℕ) (g x : ℕ) : Type 0 where
  pub at : f' g ≡ x
  pub other : (h : ℕ) → (h ≡ g → ⊥) → f' h ≡ f h

pub record Kept (f f' : ℕ → ℕ) : Type 0 where
  pub at : (h : ℕ) → f' h ≡ f h

-- Link k was noted at both of its ends.
pub record Noted (w w' : List Tally) (from to k : ℕ) : Type 0 where
  pub count : Put (count_of w) (count_of w') to (count_of w to + 1)
  pub first : Put (first_of w) (first_of w') from k

-- A group whose count is 0 was put on the stack, over what was its top; one with a count was left. r is the top then.
pub data Settled (count count' : ℕ → ℕ) (g top r : ℕ) : Type 0 where
  pushed : count g ≡ 0 → Put count count' g top → r ≡ g + 1 → Settled count count' g top r
  waiting : 0 < count g → Kept count count' → r ≡ top → Settled count count' g top r

-- The count of g went down by one, and g was settled.
pub record Lowered (count count' : ℕ → ℕ) (g top r : ℕ) : Type 0 where
  pub between : ℕ → ℕ
  pub less : Put count between g (count g - 1)
  pub settled : Settled between count' g top r
