-- The state of the cycle test, which peels: groups with no link into them from a group that is not peeled are taken out, one after the other.
use Rattle.std.specs.Prelude.{ℕ, ◌+◌, ◌<◌, ◌≤◌, ◌≡◌, Bool, true, false, ◌&&◌, ◌||◌, not, List, eqb, leb, ltb}
use Rattle.survey.specs.Survey.{Survey}
use Rattle.survey.specs.Sets.{Set, In, Out, sum, only}
use Rattle.cycles.specs.declared.tallies.Tally.{Tally}
use Rattle.cycles.specs.Tallies.{count_of, first_of, Kept}

-- the number of links into g that pass the test
unfoldable pub into : Survey → (ℕ → Bool) → ℕ → ℕ
into s t g = sum s.e (λ k. only (eqb (s.link k).to g && t k) 1)

-- Of the links from k on, each start knows its first link, and from there to the link only links of that start stand.
pub record Indexed (s : Survey) (first : ℕ → ℕ) (k : ℕ) : Type 0 where
  pub early : (j : ℕ) → k ≤ j → j < s.e → first (s.link j).from ≤ j
  pub run : (j : ℕ) → k ≤ j → j < s.e → (i : ℕ) → first (s.link j).from ≤ i → i ≤ j → (s.link i).from ≡ (s.link j).from

-- The links from k on are counted and indexed.
pub record Tallied (s : Survey) (w : List Tally) (k : ℕ) : Type 0 where
  pub count : (g : ℕ) → count_of w g ≡ into s (λ j. leb k j) g
  pub index : Indexed s (first_of w) k

abbrev pub without : ℕ → Set → Set
without g S h = not (eqb h g) && S h

-- A stack of the groups of a set, threaded through the counts: the top is the first group + 1, and 0 is the end.
pub data Threaded (count : ℕ → ℕ) : Set → ℕ → Type 0 where
  end : {S : Set} {top : ℕ} → top ≡ 0 → ((g : ℕ) → Out S g) → Threaded count S top
  on : {S : Set} {top : ℕ} (g : ℕ) → top ≡ g + 1 → In S g → Threaded count (without g S) (count g) → Threaded count S top

-- the groups below m whose count is 0
abbrev pub zeros : (ℕ → ℕ) → ℕ → Set
zeros count m g = ltb g m && eqb (count g) 0

-- The groups below m whose count was 0 are on the stack.
pub record Stacked (count count' : ℕ → ℕ) (m top : ℕ) : Type 0 where
  pub thread : Threaded count' (zeros count m) top
  pub kept : (g : ℕ) → Out (zeros count m) g → count' g ≡ count g
  pub small : top ≤ m

-- Link k still counts: its start is not peeled, or is, and the link is owed.
abbrev pub left : Survey → Set → (ℕ → Bool) → ℕ → Bool
left s P owed k = not (P (s.link k).from) || owed k

abbrev pub none_owed : ℕ → Bool
none_owed k = false

-- the links of g from k on
abbrev pub owed_from : Survey → ℕ → ℕ → ℕ → Bool
owed_from s g k j = eqb (s.link j).from g && leb k j

-- c groups are peeled, some are ready, on the stack, and the others wait for a link that is left. The owed links are those of a group
-- just peeled that have not been taken off the counts yet. Ranks rise along every link into a peeled group.
pub record Peels (s : Survey) (count : ℕ → ℕ) (top c : ℕ) (owed : ℕ → Bool) : Type 0 where
  pub peeled : Set
  pub ready : Set
  pub thread : Threaded count ready top
  pub inside : (g : ℕ) → In ready g → g < s.n
  pub apart : (g : ℕ) → In ready g → Out peeled g
  pub waits : (g : ℕ) → g < s.n → Out peeled g → Out ready g → (count g ≡ into s (left s peeled owed) g) × (0 < count g)
  pub free : (g : ℕ) → In ready g → into s (left s peeled owed) g ≡ 0
  pub freed : (g : ℕ) → In peeled g → into s (left s peeled owed) g ≡ 0
  pub counted : sum s.n (λ g. only (peeled g) 1) ≡ c
  pub rank : ℕ → ℕ
  pub below : (g : ℕ) → In peeled g → rank g < c
  pub rises : (k : ℕ) → k < s.e → In peeled (s.link k).to → rank (s.link k).from < rank (s.link k).to
  pub owing : (k : ℕ) → owed k ≡ true → In peeled (s.link k).from

-- Group g has just been peeled, and its links are next; c groups are peeled, whatever that is.
pub record Walks (s : Survey) (w : List Tally) (top g : ℕ) : Type 0 where
  pub c : ℕ
  pub peels : Peels s (count_of w) top c (owed_from s g (first_of w g))
  pub index : Indexed s (first_of w) 0

-- Its links are off the counts.
pub record Walked (s : Survey) (w w' : List Tally) (top r g : ℕ) : Type 0 where
  pub peels : (c : ℕ) → Peels s (count_of w) top c (owed_from s g (first_of w g)) → Peels s (count_of w') r c none_owed
  pub first : Kept (first_of w) (first_of w')
