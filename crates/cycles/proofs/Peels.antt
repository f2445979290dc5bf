-- Laws of peeling: how it begins, what one group and one link of it do, and what it tells at its end.
use Prim.Native.Nat.{ℕ, ◌+◌, ◌<◌, ◌≤◌}
use mathlib.Core.Path.{◌≡◌, refl, sym, ap, ◌∙◌}
use mathlib.Core.Bool.{Bool, true, false, ◌&&◌, ◌||◌, not}
use native.Mathlib.Omega.{arith}
use lib.Dec.{eqb, leb, ltb}
use borrow.Author.Tests.{eqb-true, eqb-false, le-leb, ltb-true, ltb-false}
use Rattle.survey.specs.Survey.{Survey}
use Rattle.survey.specs.Sets.{Set, In, Out, no_group}
use Rattle.survey.proofs.Sums.{sum_zero}
use Rattle.survey.proofs.Totals.{not_both}
use Rattle.cycles.specs.Peeling.{into, left, zeros, Stacked, Peels, none_owed}
use Rattle.cycles.proofs.Members.{joined, size_at_most, size_joined}
use Rattle.cycles.proofs.Threads.{thread_top, thread_below}
use Rattle.cycles.proofs.Into.{into_cong}

-- a link that is not left starts at a peeled group
left_no : (s : Survey) (P : Set) (k : ℕ) → left s P none_owed k ≡ false → In P (s.link k).from
left_no s P k = at (P (s.link k).from)
  where
    at : (t : Bool) → (not t || false) ≡ false → t ≡ true
    at true h = refl
    at false h = absurd (not_both refl h)

pub left_yes : (s : Survey) (P : Set) (k : ℕ) → left s P none_owed k ≡ true → Out P (s.link k).from
left_yes s P k = at (P (s.link k).from)
  where
    at : (t : Bool) → (not t || false) ≡ true → t ≡ false
    at true h = absurd (not_both h refl)
    at false h = refl

-- ---- the beginning

zeros_yes : (count : ℕ → ℕ) (n g : ℕ) → In (zeros count n) g → (g < n) × (count g ≡ 0)
zeros_yes count n g = at (ltb g n) (eqb (count g) 0) refl refl
  where
    at : (t u : Bool) → ltb g n ≡ t → eqb (count g) 0 ≡ u → (t && u) ≡ true → (g < n) × (count g ≡ 0)
    at true true a b h = (ltb-true g n a, eqb-true (count g) 0 b)
    at true false a b h = absurd (not_both h refl)
    at false u a b h = absurd (not_both h refl)

zeros_no : (count : ℕ → ℕ) (n g : ℕ) → g < n → Out (zeros count n) g → 0 < count g
zeros_no count n g l = at (ltb g n) (eqb (count g) 0) refl refl
  where
    above : (x : ℕ) → (x ≡ 0 → ⊥) → 0 < x
    above x d = omega arith

    at : (t u : Bool) → ltb g n ≡ t → eqb (count g) 0 ≡ u → (t && u) ≡ false → 0 < count g
    at true true a b h = absurd (not_both refl h)
    at true false a b h = above (count g) (eqb-false (count g) 0 b)
    at false u a b h = absurd (omega (arith, ltb-false g n a))

-- Nothing is peeled, and the groups that no link comes to are on the stack.
pub peel_none : {s : Survey} {count count' : ℕ → ℕ} {top : ℕ} → ((g : ℕ) → count g ≡ into s (λ k. leb 0 k) g) → Stacked count count' s.n top → Peels s count' top 0 none_owed
peel_none {s} {count} {count'} {top} tallied st =
    record {
      peeled = no_group;
      ready = zeros count s.n;
      thread = st.thread;
      inside = λ g i. (zeros_yes count s.n g i).0;
      apart = λ g i. refl;
      waits = λ g l p r. (st.kept g r ∙ number g, rw (st.kept g r) (zeros_no count s.n g l r));
      free = λ g i. sym (number g) ∙ (zeros_yes count s.n g i).1;
      freed = λ g i. absurd (not_both i refl);
      counted = sum_zero s.n (λ g. 0) (λ g l. refl);
      rank = λ g. 0;
      below = λ g i. absurd (not_both i refl);
      rises = λ k l i. absurd (not_both i refl);
      owing = λ k i. absurd (not_both i refl);
    }
  where
    number : (g : ℕ) → count g ≡ into s (left s no_group none_owed) g
    number g = tallied g ∙ into_cong s (λ k. leb 0 k) (left s no_group none_owed) (λ k l. le-leb 0 k (omega arith)) g

-- ---- bounds

module _ {s : Survey} {count : ℕ → ℕ} {top c : ℕ} {owed : ℕ → Bool} (p : Peels s count top c owed) where
  pub top_at_most : top ≤ s.n
  top_at_most = thread_below s.n p.inside p.thread

  pub peeled_at_most : c ≤ s.n
  peeled_at_most = omega (arith, size_at_most s.n p.peeled, p.counted)

  -- a ready group is one of the survey's, and is not counted yet
  pub ready_below : (g : ℕ) → top ≡ g + 1 → (g < s.n) × (c < s.n)
  ready_below g t =
      let i = (thread_top g t p.thread).0 in (
        p.inside g i,
        omega (arith, size_joined s.n p.peeled g (p.inside g i) (p.apart g i), size_at_most s.n (joined g p.peeled), p.counted),
      )

  -- Only the owed links of the survey matter.
  pub owed_same : (owed' : ℕ → Bool) → ((k : ℕ) → k < s.e → owed k ≡ owed' k) → ((k : ℕ) → owed' k ≡ true → owed k ≡ true) → Peels s count top c owed'
  owed_same owed' same less =
      record {
        peeled = p.peeled;
        ready = p.ready;
        thread = p.thread;
        inside = p.inside;
        apart = p.apart;
        waits = λ g l o r. ((p.waits g l o r).0 ∙ alike g, (p.waits g l o r).1);
        free = λ g i. sym (alike g) ∙ p.free g i;
        freed = λ g i. sym (alike g) ∙ p.freed g i;
        counted = p.counted;
        rank = p.rank;
        below = p.below;
        rises = p.rises;
        owing = λ k o. p.owing k (less k o);
      }
    where
      alike : (g : ℕ) → into s (left s p.peeled owed) g ≡ into s (left s p.peeled owed') g
      alike g = into_cong s (left s p.peeled owed) (left s p.peeled owed') (λ k l. ap (λ (b : Bool). not (p.peeled (s.link k).from) || b) (same k l)) g
