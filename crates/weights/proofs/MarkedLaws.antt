-- Sums over the marked groups: how they grow, that they stay small, and that they are those of every survey with these groups.
use Prim.Native.Nat.{ℕ, ◌+◌, ◌*◌, ◌≤◌, ◌<◌, zero-le}
use native.Mathlib.Omega.{arith}
use mathlib.Core.Path.{◌≡◌, refl, sym, ap, ◌∙◌}
use mathlib.Core.Bool.{Bool, true, false}
use mathlib.Core.List.{List, []}
use lib.ListN.{length, get_or}
use borrow.Author.Tests.{eq-eqb, ne_eqb}
use Rattle.survey.specs.Limits.{count_limit, entry_bytes, sum_limit}
use Rattle.survey.specs.Survey.{Group, Survey}
use Rattle.survey.specs.Words.{survey_at, survey_of, group_at, lent, marked_set}
use Rattle.survey.specs.Sets.{Set, sum, only, total, cost, D, L}
use Rattle.survey.proofs.SumOrder.{sum_at_most}
use Rattle.survey.proofs.Sums.{sum_cong, sum_more}
use Rattle.survey.proofs.GivenSurvey.{given_group}
use Rattle.survey.specs.Sound.{Sound}
use Rattle.survey.proofs.Admitted.{dead_small, cost_small}
use Rattle.counts.specs.declared.Dead.{Dead}
use Rattle.counts.specs.declared.Live.{Live}
use Rattle.counts.specs.Counts.{CountsFit}
use Rattle.weights.specs.Marked.{groups_of, total_of, SomeGroups}

-- ---- a sum, term by term

pub sum_none : (f : ℕ → ℕ) → sum 0 f ≡ 0
unfolding sum
sum_none f = refl

only_le : (t : Bool) {x y : ℕ} → x ≤ y → only t x ≤ y
only_le true h = h
only_le false h = zero-le

-- what group g brings to a sum of what f says of the marked groups
unfoldable pub brought : (Group → ℕ) → List ℕ → List ℕ → ℕ → ℕ
brought f groups marks g = only (marked_set marks g) (f (group_at groups lent g))

-- a group is marked, or it is not
pub marked_brings : (marks : List ℕ) (g x : ℕ) → get_or marks g 0 ≡ 1 → x ≡ only (marked_set marks g) x
marked_brings marks g x h = rw (eq-eqb (get_or marks g 0) 1 h)

pub unmarked_brings : (marks : List ℕ) (g x : ℕ) → (get_or marks g 0 ≡ 1 → ⊥) → 0 ≡ only (marked_set marks g) x
unmarked_brings marks g x d = rw (ne_eqb (get_or marks g 0) 1 d)

-- a further group: one that is marked is added, and one that is not changes nothing
module _ (f : Group → ℕ) (groups marks : List ℕ) (g : ℕ) where
  pub marked_more : get_or marks g 0 ≡ 1 → sum (g + 1) (brought f groups marks) ≡ sum g (brought f groups marks) + f (group_at groups lent g)
  unfolding brought
  marked_more h = omega (arith, sum_more g (brought f groups marks), marked_brings marks g (f (group_at groups lent g)) h)

  pub unmarked_more : (get_or marks g 0 ≡ 1 → ⊥) → sum (g + 1) (brought f groups marks) ≡ sum g (brought f groups marks)
  unfolding brought
  unmarked_more d = omega (arith, sum_more g (brought f groups marks), unmarked_brings marks g (f (group_at groups lent g)) d)

-- what at most group_limit groups bring is small
module _ {n : ℕ} {groups : List ℕ} (p : SomeGroups n groups) (marks : List ℕ) (f : Group → ℕ) (small : (x : Group) → CountsFit x → f x ≤ count_limit) where
  pub brought_small : (g : ℕ) → g ≤ n → sum g (brought f groups marks) ≤ sum_limit
  unfolding brought
  brought_small g l = omega (arith, p.few, sum_at_most g count_limit (brought f groups marks) one)
    where
      one : (i : ℕ) → i < g → brought f groups marks i ≤ count_limit
      one i h = only_le (marked_set marks i) (small (group_at groups lent i) (p.counts i (omega arith)))

-- ---- the sums are D and L

pub marked_whole : (f : Group → ℕ) (n : ℕ) (groups marks : List ℕ) → sum n (brought f groups marks) ≡ total_of f (groups_of n groups) (marked_set marks)
unfolding brought total survey_at
marked_whole f n groups marks =
    sum_cong n (brought f groups marks) _ (λ g h. ap (λ (x : Group). only (marked_set marks g) (f x)) (sym (given_group n 0 groups lent [] lent g h)))

-- what the proof of marked_sum goes by
pub ruleset marked_steps = (sum_none, marked_more, unmarked_more, marked_whole)

pub dead_total : (s : Survey) (S : Set) → total_of (λ g. g.dead) s S ≡ D s S
dead_total s S = refl

pub cost_total : (s : Survey) (S : Set) → total_of cost s S ≡ L s S
cost_total s S = refl

-- the same in every survey that has these groups
module _ (n e : ℕ) (groups links : List ℕ) (S : Set) where
  pub dead_alone : D (survey_of n e groups links) S ≡ D (groups_of n groups) S
  unfolding survey_at total
  dead_alone = refl

  pub live_alone : L (survey_of n e groups links) S ≡ L (groups_of n groups) S
  unfolding survey_at total
  live_alone = refl

-- ---- for whoever calls

-- The groups of an admitted survey are few enough and small enough, and so are its sums.
module _ (n e : ℕ) (groups links : List ℕ) (x : Sound (survey_of n e groups links)) where
  pub sound_groups : entry_bytes * n ≤ length groups → SomeGroups n groups
  unfolding survey_at
  sound_groups h =
      record {
        few = x.groups;
        long = h;
        counts = λ g l. rw (given_group n e groups lent links lent g l) at (fit g l);
      }
    where
      fit : (g : ℕ) → g < n → CountsFit ((survey_of n e groups links).group g)
      fit g l = record { dead = x.dead g l; live = x.live g l }

  pub dead_within : (S : Set) → D (groups_of n groups) S ≤ sum_limit
  dead_within S = rw (dead_alone n e groups links S) at (dead_small x S)

  pub live_within : (S : Set) → L (groups_of n groups) S ≤ sum_limit
  live_within S = rw (live_alone n e groups links S) at (cost_small x S)

-- Two sums that are allowed are equal.
pub dead_sum_one : {r r' : Dead} {d : ℕ} → r.0 ≡ d → r'.0 ≡ d → r ≡ r'
dead_sum_one a b = λ i. record { 0 = (a ∙ sym b) i }

pub live_sum_one : {r r' : Live} {l : ℕ} → r.0 ≡ l → r'.0 ≡ l → r ≡ r'
live_sum_one a b = λ i. record { 0 = (a ∙ sym b) i }
