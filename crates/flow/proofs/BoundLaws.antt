-- Nothing wraps. Where the links have no cycle and no lack is above its minus, what is on the links into a group, or out of it, is at most the
-- total plus: all of it crosses one cut between the groups of low rank and those of high rank (docs/MATHEMATICS.md, 9).
use Prim.Native.Nat.{ℕ, ◌+◌, ◌≤◌, ◌<◌}
use native.Mathlib.Omega.{arith}
use mathlib.Core.Path.{◌≡◌, refl, sym, ◌∙◌}
use mathlib.Core.Bool.{Bool, true, false, ◌&&◌, not}
use lib.Dec.{eqb, ltb}
use borrow.Author.Tests.{eqb-true, eq-eqb, lt-ltb, le-ltb, ltb-true}
use Rattle.survey.specs.Survey.{Survey}
use Rattle.survey.specs.Sets.{Set, Closed, all_groups, outside, only, total}
use Rattle.survey.specs.Rounds.{Weights, total_plus}
use Rattle.survey.specs.Balance.{Amounts, gets, pays, excess, lack}
use Rattle.survey.specs.Sound.{Inside}
use Rattle.survey.proofs.Cycles.{Ranking}
use Rattle.survey.proofs.SumOrder.{sum_le}
use Rattle.survey.proofs.Sums.{sum_cong, sum_add, term_le}
use Rattle.survey.proofs.Totals.{member_le}
use Rattle.survey.proofs.BalanceLaw.{leaving, none_leaves, balance_law}

-- a set and its outside have, together, what all groups have
total_split : (s : Survey) (f : ℕ → ℕ) (S : Set) → total s f S + total s f (outside S) ≡ total s f all_groups
unfolding total
total_split s f S =
    sym (sum_add s.n (λ g. only (S g) (f g)) (λ g. only (outside S g) (f g)))
    ∙ sum_cong s.n (λ g. only (S g) (f g) + only (outside S g) (f g)) (λ g. f g) (λ g l. at (S g) (f g))
  where
    at : (t : Bool) (x : ℕ) → only t x + only (not t) x ≡ x
    at true x = omega arith
    at false x = omega arith

total_below : (s : Survey) (f h : ℕ → ℕ) (S : Set) → ((g : ℕ) → g < s.n → f g ≤ h g) → total s f S ≤ total s h S
unfolding total
total_below s f h S le = sum_le s.n (λ g. only (S g) (f g)) (λ g. only (S g) (h g)) (λ g l. at (S g) (f g) (h g) (le g l))
  where
    at : (t : Bool) (x y : ℕ) → x ≤ y → only t x ≤ only t y
    at true x y h = h
    at false x y h = omega arith

-- the groups of rank below m
low : {s : Survey} → Ranking s → ℕ → Set
low r m g = ltb (r.rank g) m

-- a link that is counted is one that crosses
crossing : (a b c : Bool) (y : ℕ) → (a ≡ true → (b ≡ true) × (c ≡ false)) → only a y ≤ only (b && not c) y
crossing true b c y h = let p = h refl in rw (p.0, p.1) (omega arith)
crossing false b c y h = omega arith

module _ {s : Survey} (w : Weights) (x : Amounts) (i : Inside s) (r : Ranking s) (lean : (g : ℕ) → g < s.n → lack s w x g ≤ w.minus g) where
  low_closed : (m : ℕ) → Closed s (low r m)
  unfolding low
  low_closed m = record { back = λ k l h. lt-ltb (r.rank (s.link k).from) m (omega (arith, r.rises k l, ltb-true (r.rank (s.link k).to) m h)) }

  -- what crosses the cut above them
  cut_bound : (m : ℕ) → leaving s x (low r m) ≤ total_plus s w all_groups
  cut_bound m =
      omega (
        arith,
        balance_law s x (low r m) i w (low_closed m),
        balance_law s x all_groups i w (record { back = λ k l h. refl }),
        none_leaves s x all_groups (λ k l f t p. omega (arith, never t)),
        total_split s w.plus (low r m),
        total_split s w.minus (low r m),
        total_split s (excess s w x) (low r m),
        total_split s (lack s w x) (low r m),
        total_below s (lack s w x) w.minus (outside (low r m)) lean,
      )
    where
      never : true ≡ false → ◌≡◌ {A = ℕ} 0 1
      never e = cc

  -- the amounts on all links from g
  pub gets_bound : (g : ℕ) → gets s x g ≤ total_plus s w all_groups
  unfolding gets leaving low
  gets_bound g =
      omega (
        arith,
        cut_bound (r.rank g + 1),
        sum_le s.e (λ k. only (eqb (s.link k).from g) (x k))
            (λ k. only (low r (r.rank g + 1) (s.link k).from && not (low r (r.rank g + 1) (s.link k).to)) (x k))
            (λ k l. crossing (eqb (s.link k).from g) (low r (r.rank g + 1) (s.link k).from) (low r (r.rank g + 1) (s.link k).to) (x k)
            (λ e. let at = eqb-true (s.link k).from g e in (
              rw at (lt-ltb (r.rank g) (r.rank g + 1) (omega arith)),
              le-ltb (r.rank (s.link k).to) (r.rank g + 1)
                  (omega (arith, rw at at (r.rises k l))),
            ))),
      )

  -- the amounts on all links to g
  pub pays_bound : (g : ℕ) → pays s x g ≤ total_plus s w all_groups
  unfolding pays leaving low
  pays_bound g =
      omega (
        arith,
        cut_bound (r.rank g),
        sum_le s.e (λ k. only (eqb (s.link k).to g) (x k))
            (λ k. only (low r (r.rank g) (s.link k).from && not (low r (r.rank g) (s.link k).to)) (x k))
            (λ k l. crossing (eqb (s.link k).to g) (low r (r.rank g) (s.link k).from) (low r (r.rank g) (s.link k).to) (x k)
            (λ e. let at = eqb-true (s.link k).to g e in (lt-ltb _ _ (rw at at (r.rises k l)), rw at (le-ltb (r.rank g) (r.rank g) (omega arith))))),
      )

  -- one amount
  pub amount_bound : (k : ℕ) → k < s.e → x k ≤ total_plus s w all_groups
  unfolding gets
  amount_bound k l =
      omega (
        arith,
        gets_bound (s.link k).from,
        rw (eq-eqb (s.link k).from (s.link k).from refl) at (term_le s.e (λ j. only (eqb (s.link j).from (s.link k).from) (x j)) k l),
      )

  -- one plus, and with what a group gets, its excess
  pub excess_bound : (g : ℕ) → g < s.n → excess s w x g ≤ total_plus s w all_groups + total_plus s w all_groups
  excess_bound g l = omega (arith, gets_bound g, member_le s w.plus all_groups g l refl)
