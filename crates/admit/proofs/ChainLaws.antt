-- How admission puts its answer together: from what is said of one list alone, to what is said of the survey.
use Prim.Native.Nat.{ℕ, ◌<◌, ◌≤◌}
use mathlib.Core.Path.{◌≡◌, refl}
use mathlib.Core.Logic.{inl, inr, ⊎_elim}
use mathlib.Core.List.{List, [], ◌∷◌}
use native.Mathlib.Omega.{arith}
use Rattle.survey.specs.Limits.{group_limit, link_limit}
use Rattle.survey.specs.Survey.{Group, Link, Survey, ComesTo, one, more, Cycle}
use Rattle.survey.specs.Refusals.{Verdict, Fault, whole, Answers}
use Rattle.survey.specs.Refusals as rows
use Rattle.survey.specs.Faults.{bad_range}
use Rattle.survey.proofs.Verdicts.{given, past}
use Rattle.links.specs.LinkFaults.{link_faults}

-- ---- 5

pub in_range : {n e : ℕ} → ((bad_range n e).at 0 → ⊥) → (n ≤ group_limit) × (e ≤ link_limit)
in_range d = (under (λ h. d (inr (inl h))), under (λ h. d (inr (inr h))))
  where
    under : {x y : ℕ} → (y < x → ⊥) → x ≤ y
    under d = omega arith

-- ---- 9 to 11 are a matter of the links

comes_by_links : {s s' : Survey} → s.e ≡ s'.e → ((k : ℕ) → s.link k ≡ s'.link k) → {p q : ℕ} → ComesTo s p q → ComesTo s' p q
comes_by_links e same (one k l f t) = one k (rw e at l) (rw (same k) at f) (rw (same k) at t)
comes_by_links {s} {s'} e same (more k l w t) = more k (rw e at l) (rw (same k) at (comes_by_links {s = s} {s' = s'} e same w)) (rw (same k) at t)

cycle_by_links : {s s' : Survey} → s.e ≡ s'.e → ((k : ℕ) → s.link k ≡ s'.link k) → Cycle s → Cycle s'
cycle_by_links e same c = (c.0, comes_by_links e same c.1)

-- A row stays as it is, and what comes after it is said in other words.
next : {f : Fault} {fs gs : List Fault} {v : Verdict} → (Answers fs v → Answers gs v) → Answers (f ∷ fs) v → Answers (f ∷ gs) v
unfolding rows.First
next go a = ⊎_elim given (λ x. past x.0 (go (record { first = x.1 }))) a.first

-- A row with no place may say its fault in other words.
reworded : {m : ℕ} {P Q : Type 0} {v : Verdict} → (P → Q) → (Q → P) → Answers (whole m P ∷ []) v → Answers (whole m Q ∷ []) v
unfolding rows.First
reworded f g a =
    ⊎_elim
    (λ x. given (record {
      lowest_place = x.lowest_place;
      lowest = record { below = x.lowest.below; fault = f x.lowest.fault; first = λ j l q. x.lowest.first j l (g q) };
      is = x.is;
    }))
    (λ x. past (record { none = λ k l q. x.0.none k l (g q) }) (record { first = x.1 }))
    a.first

-- So what they say of a survey they say of one with other groups.
pub by_links : {n e : ℕ} {link : ℕ → Link} {group group' : ℕ → Group} {v : Verdict}
    → Answers (link_faults (record { n = n; e = e; group = group; link = link })) v
    → Answers (link_faults (record { n = n; e = e; group = group'; link = link })) v
by_links = next (next (reworded (cycle_by_links refl (λ k. refl)) (cycle_by_links refl (λ k. refl))))
