-- No cycle exactly when there is a ranking, and where there is a rest there is a cycle (docs/MATHEMATICS.md, 10).
use Prim.Native.Nat.{ℕ, zero, suc, ◌<◌, ◌≤◌}
use mathlib.Core.Path.{◌≡◌, refl}
use mathlib.Core.Bool.{Bool, true, false}
use mathlib.Core.Logic.{◌↔◌, ⊎_elim}
use native.Mathlib.Omega.{arith}
use Rattle.survey.specs.Survey.{Survey, ComesTo, one, more, Cycle}
use Rattle.survey.specs.Sets.{Set, In, sum, only}
use Rattle.survey.specs.Sound.{Inside}
use Rattle.survey.proofs.Reaching.{via, via_comes, comes_via, cycle_decided}
use Rattle.survey.proofs.SumOrder.{sum_lt, sum_at_most}

-- Numbers for the groups that rise along each link.
pub record Ranking (s : Survey) : Type 0 where
  pub rank : ℕ → ℕ
  pub rises : (k : ℕ) → k < s.e → rank (s.link k).from < rank (s.link k).to

-- Along a walk ranks rise.
pub walk_rises : {s : Survey} (r : Ranking s) {p q : ℕ} → ComesTo s p q → r.rank p < r.rank q
walk_rises r (one k l f t) = rw (← f, ← t) (r.rises k l)
walk_rises r (more k l w t) = rw (← t) (omega (arith, walk_rises r w, r.rises k l))

pub ranking_no_cycle : {s : Survey} → Ranking s → Cycle s → ⊥
ranking_no_cycle r c = omega (arith, walk_rises r c.1)

-- A rest: some group is in it, and each group in it has a link from it.
pub record Rest (s : Survey) (R : Set) : Type 0 where
  pub first : ℕ
  pub below : first < s.n
  pub member : In R first
  pub fed : (g : ℕ) → g < s.n → In R g → (k : ℕ) × (k < s.e) × In R (s.link k).from × ((s.link k).to ≡ g)

-- No group of a rest has a rank below b: a group of the rest, of lower rank, links to it.
rest_no_lowest : {s : Survey} {R : Set} → Inside s → Rest s R → (r : Ranking s) (b g : ℕ) → g < s.n → In R g → r.rank g < b → ⊥
rest_no_lowest i x r zero g l m h = omega arith
rest_no_lowest i x r (suc b) g l m h =
    let f = x.fed g l m in
    rest_no_lowest i x r b _ (i.from f.0 f.1) f.2 (omega (arith, rw f.3 at (r.rises f.0 f.1)))

pub rest_no_ranking : {s : Survey} {R : Set} → Inside s → Rest s R → Ranking s → ⊥
rest_no_ranking i x r = rest_no_lowest i x r (suc (r.rank x.first)) x.first x.below x.member (omega arith)

-- how many groups g is reached from
unfoldable pub reached_from : Survey → ℕ → ℕ
reached_from s g = sum s.n (λ h. only (via s s.n h g) 1)

refused : (t : Bool) → (t ≡ true → ⊥) → t ≡ false
refused true h = absurd (h refl)
refused false h = refl

only_le : (a b : Bool) (x : ℕ) → (a ≡ true → b ≡ true) → only a x ≤ only b x
only_le true b x h = rw (h refl) (omega arith)
only_le false b x h = omega arith

-- Whatever reaches the from of a link reaches its to, by one link more; and from reaches to, but does not reach itself.
reached_rises : {s : Survey} → Inside s → (Cycle s → ⊥) → (k : ℕ) → k < s.e → reached_from s (s.link k).from < reached_from s (s.link k).to
unfolding reached_from
reached_rises {s} i c k l = sum_lt s.n _ _ (λ h d. only_le (via s s.n h _) (via s s.n h _) 1 (λ t. comes_via i (more k l (via_comes s.n t) refl))) p (i.from k l) itself
  where
    p : ℕ
    p = (s.link k).from

    itself : only (via s s.n p p) 1 < only (via s s.n p (s.link k).to) 1
    itself = rw (refused (via s s.n p p) (λ t. c (p, via_comes s.n t)), comes_via i (one k l refl refl)) (omega arith)

pub no_cycle_ranking : {s : Survey} → Inside s → (Cycle s → ⊥) → Ranking s
no_cycle_ranking {s} i c = record { rank = reached_from s; rises = reached_rises i c }

-- Its ranks are at most n.
pub rank_below : {s : Survey} (i : Inside s) (c : Cycle s → ⊥) (g : ℕ) → (no_cycle_ranking i c).rank g ≤ s.n
unfolding no_cycle_ranking reached_from
rank_below {s} i c g = omega (arith, sum_at_most s.n 1 _ (λ h d. only_le (via s s.n h g) true 1 (λ t. refl)))

pub ranking_iff : {s : Survey} → Inside s → (Ranking s ↔ (Cycle s → ⊥))
ranking_iff i = (ranking_no_cycle, no_cycle_ranking i)

pub rest_cycle : {s : Survey} {R : Set} → Inside s → Rest s R → Cycle s
rest_cycle i x = ⊎_elim (λ c. c) (λ c. absurd (rest_no_ranking i x (no_cycle_ranking i c))) (cycle_decided i)
