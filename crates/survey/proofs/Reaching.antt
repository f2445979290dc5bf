-- Reaching is decided: from p one comes to q through middle groups below m, for m up to n (docs/MATHEMATICS.md, 10).
use Prim.Native.Nat.{ℕ, zero, suc, ◌<◌}
use mathlib.Core.Path.{◌≡◌, refl, ◌∙◌, sym}
use mathlib.Core.Bool.{Bool, true, false, ◌&&◌, ◌||◌, false≢true}
use mathlib.Core.Logic.{◌⊎◌, inl, inr, ⊎_elim}
use native.Mathlib.Omega.{arith}
use lib.Dec.{eqb}
use borrow.Author.Tests.{eqb-true, eq-eqb}
use Rattle.survey.specs.Survey.{Survey, ComesTo, one, more, Cycle}
use Rattle.survey.specs.Sound.{Inside}
use Rattle.survey.proofs.SumOrder.{before_or_last}

-- ---- one of two tests, and both

either : (a b : Bool) → (a || b) ≡ true → (a ≡ true) ⊎ (b ≡ true)
either true b h = inl refl
either false b h = inr h

both : (a b : Bool) → (a && b) ≡ true → (a ≡ true) × (b ≡ true)
both true b h = (refl, h)
both false b h = absurd (false≢true h)

right : (a b : Bool) → b ≡ true → (a || b) ≡ true
right true b h = refl
right false b h = h

-- ---- a search

-- the test passes somewhere below n
unfoldable pub somewhere : ℕ → (ℕ → Bool) → Bool
somewhere zero t = false
somewhere (suc n) t = somewhere n t || t n

pub somewhere_at : (n : ℕ) (t : ℕ → Bool) → somewhere n t ≡ true → (i : ℕ) × (i < n) × (t i ≡ true)
unfolding somewhere
somewhere_at zero t h = absurd (false≢true h)
somewhere_at (suc n) t h = go (either (somewhere n t) (t n) h) (somewhere_at n t)
  where
    go : (somewhere n t ≡ true) ⊎ (t n ≡ true) → (somewhere n t ≡ true → (i : ℕ) × (i < n) × (t i ≡ true)) → (i : ℕ) × (i < suc n) × (t i ≡ true)
    go (inl b) found = let f = found b in (f.0, omega arith, f.2)
    go (inr e) found = (n, omega arith, e)

pub at_somewhere : (n : ℕ) (t : ℕ → Bool) (i : ℕ) → i < n → t i ≡ true → somewhere n t ≡ true
unfolding somewhere
at_somewhere zero t i l h = absurd (omega arith)
at_somewhere (suc n) t i l h = go (before_or_last n i l) (λ b. at_somewhere n t i b h)
  where
    go : (i < n) ⊎ (i ≡ n) → (i < n → somewhere n t ≡ true) → (somewhere n t || t n) ≡ true
    go (inl b) before = rw (before b)
    go (inr e) before = right (somewhere n t) (t n) (rw e at h)

-- ---- reaching

-- link k is one from p to q
abbrev pub joins : Survey → ℕ → ℕ → ℕ → Bool
joins s p q k = eqb (s.link k).from p && eqb (s.link k).to q

-- there is a link from p to q
unfoldable pub any_link : Survey → ℕ → ℕ → Bool
any_link s p q = somewhere s.e (joins s p q)

-- from p one comes to q by links whose middle groups are all below m
unfoldable pub via : Survey → ℕ → ℕ → ℕ → Bool
via s zero p q = any_link s p q
via s (suc m) p q = via s m p q || (via s m p m && via s m m q)

-- one walk after the other
pub comes_on : {s : Survey} {p q r : ℕ} → ComesTo s p q → ComesTo s q r → ComesTo s p r
comes_on v (one k l f t) = more k l (rw f v) t
comes_on v (more k l w t) = more k l (comes_on v w) t

module _ (s : Survey) where
  via_split : (m p q : ℕ) → via s (suc m) p q ≡ true → (via s m p q ≡ true) ⊎ ((via s m p m ≡ true) × (via s m m q ≡ true))
  unfolding via
  via_split m p q h = ⊎_elim inl (λ t. inr (both (via s m p m) (via s m m q) t)) (either (via s m p q) (via s m p m && via s m m q) h)

  via_direct : (m p q : ℕ) → via s m p q ≡ true → via s (suc m) p q ≡ true
  unfolding via
  via_direct m p q h = rw h

  via_middle : (m p q : ℕ) → via s m p m ≡ true → via s m m q ≡ true → via s (suc m) p q ≡ true
  unfolding via
  via_middle m p q a b = right (via s m p q) (via s m p m && via s m m q) (rw (a, b))

  -- The newest middle group is no help to a walk that begins or ends in it.
  via_to_last : (m p : ℕ) → via s (suc m) p m ≡ true → via s m p m ≡ true
  via_to_last m p h = ⊎_elim (λ t. t) (λ t. t.0) (via_split m p m h)

  via_from_last : (m q : ℕ) → via s (suc m) m q ≡ true → via s m m q ≡ true
  via_from_last m q h = ⊎_elim (λ t. t) (λ t. t.1) (via_split m m q h)

  -- Where two walks meet in an allowed group, they are one walk.
  via_join : (m p k q : ℕ) → k < m → via s m p k ≡ true → via s m k q ≡ true → via s m p q ≡ true
  via_join zero p k q l a b = absurd (omega arith)
  via_join (suc m) p k q l a b = go (before_or_last m k l) (via_split m p k a) (via_split m k q b) (λ x y d. via_join m x k y d)
    where
      go : (k < m) ⊎ (k ≡ m) → (via s m p k ≡ true) ⊎ ((via s m p m ≡ true) × (via s m m k ≡ true))
          → (via s m k q ≡ true) ⊎ ((via s m k m ≡ true) × (via s m m q ≡ true))
          → ((x y : ℕ) → k < m → via s m x k ≡ true → via s m k y ≡ true → via s m x y ≡ true) → via s (suc m) p q ≡ true
      go (inl d) (inl v) (inl w) join = via_direct m p q (join p q d v w)
      go (inl d) (inl v) (inr w) join = via_middle m p q (join p m d v w.0) w.1
      go (inl d) (inr v) (inl w) join = via_middle m p q v.0 (join m q d v.1 w)
      go (inl d) (inr v) (inr w) join = via_middle m p q v.0 w.1
      go (inr e) v w join = via_middle m p q (via_to_last m p (rw e at a)) (via_from_last m q (rw e at b))

  via_link : (m k : ℕ) → k < s.e → via s m (s.link k).from (s.link k).to ≡ true
  unfolding via any_link
  via_link zero k l = at_somewhere s.e (joins s _ _) k l (rw (eq-eqb (s.link k).from _ refl, eq-eqb (s.link k).to _ refl))
  via_link (suc m) k l = via_direct m _ _ (via_link m k l)

pub via_comes : {s : Survey} (m : ℕ) {p q : ℕ} → via s m p q ≡ true → ComesTo s p q
unfolding via any_link
via_comes {s} zero {p} {q} h =
    let f = somewhere_at s.e (joins s p q) h in
    let b = both (eqb (s.link f.0).from p) (eqb (s.link f.0).to q) f.2 in
    one f.0 f.1 (eqb-true _ _ b.0) (eqb-true _ _ b.1)
via_comes {s} (suc m) {p} {q} h = ⊎_elim (via_comes m) (λ t. comes_on (via_comes m t.0) (via_comes m t.1)) (via_split s m p q h)

-- Through all groups: a middle group of a walk is the from of a link, so it is below n.
pub comes_via : {s : Survey} → Inside s → {p q : ℕ} → ComesTo s p q → via s s.n p q ≡ true
comes_via {s} i (one k l f t) = rw (← f, ← t) (via_link s s.n k l)
comes_via {s} i {p} (more k l w t) = rw (← t) (via_join s s.n p _ _ (i.from k l) (comes_via i w) (via_link s s.n k l))

-- ---- cycles

-- A walk ends in a group of the survey.
pub comes_below : {s : Survey} → Inside s → {p q : ℕ} → ComesTo s p q → q < s.n
comes_below i (one k l f t) = rw (← t) (i.to k l)
comes_below i (more k l w t) = rw (← t) (i.to k l)

-- some group comes back to itself
unfoldable pub has_cycle : Survey → Bool
has_cycle s = somewhere s.n (λ g. via s s.n g g)

pub has_cycle_lem : {s : Survey} → has_cycle s ≡ true → Cycle s
unfolding has_cycle
has_cycle_lem {s} h = let f = somewhere_at s.n (λ g. via s s.n g g) h in (f.0, via_comes s.n f.2)

pub no_cycle : {s : Survey} → Inside s → has_cycle s ≡ false → Cycle s → ⊥
unfolding has_cycle
no_cycle {s} i h c = false≢true (sym h ∙ at_somewhere s.n (λ g. via s s.n g g) c.0 (comes_below i c.1) (comes_via i c.1))

pub cycle_decided : {s : Survey} → Inside s → Cycle s ⊎ (Cycle s → ⊥)
cycle_decided {s} i = go (has_cycle s) refl
  where
    go : (t : Bool) → has_cycle s ≡ t → Cycle s ⊎ (Cycle s → ⊥)
    go true h = inl (has_cycle_lem h)
    go false h = inr (no_cycle i h)
