-- Laws of the groups that began a wave, which are marked 3: one after the other, and what that makes of the marks.
use Prim.Native.Nat.{ℕ, ◌≤◌, ◌<◌}
use native.Mathlib.Omega.{arith}
use mathlib.Core.Path.{◌≡◌, ◌∙◌}
use mathlib.Core.Logic.{◌⊎◌, inl, inr}
use mathlib.Core.List.{List}
use lib.ListN.{get_or}
use Rattle.flow.specs.Drains.{Placed}
use Rattle.flow.specs.Waves.{unmarked, Remarked, Coming, Ahead, SetApart}

-- c' groups have joined, of which c began
module _ {n c c' : ℕ} {t order t' : List ℕ} (p : Placed n t order c') (w : c ≤ c') (a : SetApart t order c t') where
  -- who began is marked 3, and who else drains 1
  three_or_one : (j : ℕ) → j < c' → (get_or t' (get_or order j 0) 0 ≡ 1) ⊎ (get_or t' (get_or order j 0) 0 ≡ 3)
  three_or_one j l = go (a.each (get_or order j 0))
    where
      go : (get_or t' (get_or order j 0) 0 ≡ get_or t (get_or order j 0) 0) ⊎ ((i : ℕ) × (i < c) × (get_or order i 0 ≡ get_or order j 0)) →
          (get_or t' (get_or order j 0) 0 ≡ 1) ⊎ (get_or t' (get_or order j 0) 0 ≡ 3)
      go (inl z) = inl (z ∙ p.marked j l)
      go (inr f) = inr (rw f.2 at (a.three f.0 f.1))

  pub apart_coming : (j : ℕ) → j < c' → Coming t' (get_or order j 0)
  apart_coming j l = go (three_or_one j l)
    where
      go : (get_or t' (get_or order j 0) 0 ≡ 1) ⊎ (get_or t' (get_or order j 0) 0 ≡ 3) → Coming t' (get_or order j 0)
      go (inl z) = omega arith
      go (inr z) = omega arith

  pub apart_remarked : Remarked n t t'
  apart_remarked = record { same = λ g. same g (a.each g); rest = λ g l. rest g l (a.each g); long = a.long }
    where
      same : (g : ℕ) → (get_or t' g 0 ≡ get_or t g 0) ⊎ ((i : ℕ) × (i < c) × (get_or order i 0 ≡ g)) → unmarked t' g ≡ unmarked t g
      same g (inl z) = rw z
      same g (inr f) =
          let old : get_or t g 0 ≡ 1 = rw f.2 at (p.marked f.0 (omega (arith, f.1))) in
          let new : get_or t' g 0 ≡ 3 = rw f.2 at (a.three f.0 f.1) in
          rw (old, new)

      rest : (g : ℕ) → n ≤ g → (get_or t' g 0 ≡ get_or t g 0) ⊎ ((i : ℕ) × (i < c) × (get_or order i 0 ≡ g)) → get_or t' g 0 ≡ get_or t g 0
      rest g l (inl z) = z
      rest g l (inr f) = absurd (omega (arith, f.2, p.group f.0 (omega (arith, f.1))))

  pub apart_ahead : Ahead n t' order c'
  apart_ahead = record { at = λ g l m. go g l m (a.each g) }
    where
      go : (g : ℕ) → g < n → Coming t' g → (get_or t' g 0 ≡ get_or t g 0) ⊎ ((i : ℕ) × (i < c) × (get_or order i 0 ≡ g)) → (j : ℕ) × (j < c') × (get_or order j 0 ≡ g)
      go g l m (inl z) = p.cover g l (omega (arith, p.bits g l))
      go g l m (inr f) = (f.0, omega (arith, f.1), f.2)

  -- nobody else is marked 3
  pub apart_began : (la : List ℕ) → ((j : ℕ) → j < c → 0 < get_or la (get_or order j 0) 0) → (g : ℕ) → g < n → get_or t' g 0 ≡ 3 → 0 < get_or la g 0
  apart_began la starts g l m = go (a.each g)
    where
      go : (get_or t' g 0 ≡ get_or t g 0) ⊎ ((i : ℕ) × (i < c) × (get_or order i 0 ≡ g)) → 0 < get_or la g 0
      go (inl z) = absurd (omega (arith, p.bits g l))
      go (inr f) = rw f.2 at (starts f.0 f.1)
