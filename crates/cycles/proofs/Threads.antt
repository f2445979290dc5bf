-- Laws of the stack that is threaded through the counts.
use Prim.Native.Nat.{ℕ, ◌+◌, ◌<◌, ◌≤◌}
use mathlib.Core.Path.{◌≡◌, refl, sym, ap, ◌∙◌, subst}
use mathlib.Core.Bool.{Bool, true, false, ◌&&◌, not}
use native.Mathlib.Decide.{ℕ_discrete}
use native.Mathlib.Omega.{arith}
use lib.Dec.{eqb, ltb}
use borrow.Author.Tests.{eq-eqb, ne_eqb, ltb-true, ltb-false, lt-ltb, le-ltb}
use Rattle.survey.specs.Sets.{Set, In, Out}
use Rattle.survey.proofs.Totals.{not_both}
use Rattle.cycles.specs.Tallies.{Put, Settled, pushed, waiting}
use Rattle.cycles.specs.Peeling.{Threaded, end, on, without, zeros, Stacked}
use Rattle.cycles.proofs.Members.{joined, joined_self, joined_out, joined_without, without_in, members_differ}

-- A store elsewhere is nothing to the stack, nor is the way its set is written.
pub thread_moved : {count count' : ℕ → ℕ} {S S' : Set} {top : ℕ} → Threaded count S top → ((h : ℕ) → In S h → count' h ≡ count h) → ((h : ℕ) → S' h ≡ S h) → Threaded count' S' top
thread_moved (end z none) same alike = end z (λ g. alike g ∙ none g)
thread_moved {count} {count'} {S} {S'} (on g t i rest) same alike =
    on g t (alike g ∙ i)
    (subst (λ (x : ℕ). Threaded count' (without g S') x) (sym (same g i))
    (thread_moved rest (λ h j. same h (without_in g S h j).1) (λ h. ap (λ (b : Bool). not (eqb h g) && b) (alike h))))

-- A group goes on the stack.
pub thread_push : {count count' : ℕ → ℕ} {S : Set} {top : ℕ} (g : ℕ) → Threaded count S top → Out S g → Put count count' g top → Threaded count' (joined g S) (g + 1)
thread_push {count} {count'} {S} {top} g th o p =
    on g refl (joined_self g S)
    (subst (λ (x : ℕ). Threaded count' (without g (joined g S)) x) (sym p.at)
    (thread_moved th (λ h i. p.other h (members_differ S i o)) (joined_without g S o)))

-- The top of the stack is in the set, and under it stands the stack of the others.
pub thread_top : {count : ℕ → ℕ} {S : Set} {top : ℕ} (g : ℕ) → top ≡ g + 1 → Threaded count S top → In S g × Threaded count (without g S) (count g)
thread_top g t (end z none) = absurd (omega arith)
thread_top {count} {S} g t (on h u i rest) =
    let e : h ≡ g = omega arith in
    (subst (λ (x : ℕ). In S x) e i, subst (λ (x : ℕ). Threaded count (without x S) (count x)) e rest)

-- An empty stack has an empty set.
pub thread_end : {count : ℕ → ℕ} {S : Set} {top : ℕ} → top ≡ 0 → Threaded count S top → (g : ℕ) → Out S g
thread_end z (end y none) = none
thread_end z (on h u i rest) = absurd (omega arith)

pub thread_below : {count : ℕ → ℕ} {S : Set} {top : ℕ} (n : ℕ) → ((g : ℕ) → In S g → g < n) → Threaded count S top → top ≤ n
thread_below n inside (end z none) = omega arith
thread_below n inside (on g t i rest) = omega (arith, inside g i)

-- ---- the groups whose count is 0

module _ (count : ℕ → ℕ) where
  zeros_before : (m g : ℕ) → In (zeros count m) g → g < m
  zeros_before m g = at (ltb g m) refl
    where
      at : (t : Bool) → ltb g m ≡ t → In (zeros count m) g → g < m
      at true e i = ltb-true g m e
      at false e i = absurd (not_both (rw e at i) refl)

  zeros_last : (m : ℕ) → Out (zeros count m) m
  zeros_last m = rw (le-ltb m m (omega arith))

  -- one group further: it comes in where its count is 0
  further : (m h : ℕ) → (h ≡ m → ⊥) → ltb h (m + 1) ≡ ltb h m
  further m h d = at (ltb h m) refl
    where
      at : (t : Bool) → ltb h m ≡ t → ltb h (m + 1) ≡ ltb h m
      at true e = rw e (lt-ltb h (m + 1) (omega (arith, ltb-true h m e)))
      at false e = rw e (le-ltb h (m + 1) (beyond d (ltb_no e)))
        where
          ltb_no : ltb h m ≡ false → m ≤ h
          ltb_no e = omega (arith, ltb-false h m e)

          beyond : (h ≡ m → ⊥) → m ≤ h → m + 1 ≤ h
          beyond d l = omega arith

  zeros_more : (m : ℕ) → count m ≡ 0 → (h : ℕ) → zeros count (m + 1) h ≡ joined m (zeros count m) h
  zeros_more m z h = at (ℕ_discrete h m)
    where
      at : Dec (h ≡ m) → zeros count (m + 1) h ≡ joined m (zeros count m) h
      at (yes e) = rw (e, lt-ltb m (m + 1) (omega arith), z, eq-eqb m m refl)
      at (no d) = rw (further m h d, ne_eqb h m d)

  zeros_same : (m : ℕ) → 0 < count m → (h : ℕ) → zeros count (m + 1) h ≡ zeros count m h
  zeros_same m p h = at (ℕ_discrete h m)
    where
      at : Dec (h ≡ m) → zeros count (m + 1) h ≡ zeros count m h
      at (yes e) = rw (e, lt-ltb m (m + 1) (omega arith), ne_eqb (count m) 0 (λ z. omega arith), le-ltb m m (omega arith))
      at (no d) = rw (further m h d)

pub stack_none : (count : ℕ → ℕ) → Stacked count count 0 0
stack_none count = record { thread = end {S = zeros count 0} refl (λ g. rw (le-ltb g 0 (omega arith))); kept = λ g o. refl; small = omega arith }

pub stack_next : {count count₁ count₂ : ℕ → ℕ} {m top r : ℕ} → Stacked count count₁ m top → Settled count₁ count₂ m top r → Stacked count count₂ (m + 1) r
stack_next {count} {count₁} {count₂} {m} {top} {r} st (pushed z p t) =
    let here : count m ≡ 0 = sym (st.kept m (zeros_last count m)) ∙ z in
    record {
      thread =
          subst (λ (x : ℕ). Threaded count₂ (zeros count (m + 1)) x) (sym t)
          (thread_moved (thread_push m st.thread (zeros_last count m) p) (λ h i. refl) (zeros_more count m here));
      kept = λ g o.
          let out = joined_out m (zeros count m) g (sym (zeros_more count m here g) ∙ o) in
          p.other g out.0 ∙ st.kept g out.1;
      small = omega (arith, st.small);
    }
stack_next {count} {count₁} {count₂} {m} {top} {r} st (waiting w k t) =
    let here : 0 < count m = omega (arith, st.kept m (zeros_last count m)) in
    record {
      thread =
          subst (λ (x : ℕ). Threaded count₂ (zeros count (m + 1)) x) (sym t)
          (thread_moved st.thread (λ h i. k.at h) (zeros_same count m here));
      kept = λ g o. k.at g ∙ st.kept g (sym (zeros_same count m here g) ∙ o);
      small = omega (arith, st.small);
    }
