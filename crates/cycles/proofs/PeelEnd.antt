-- What peeling tells at its end, and the walk along the links of one group.
use Prim.Native.Nat.{ℕ, ◌+◌, ◌<◌, ◌≤◌}
use mathlib.Core.Path.{◌≡◌, refl, sym, ap, ◌∙◌, subst}
use mathlib.Core.Bool.{Bool, true, false, ◌&&◌, not}
use mathlib.Core.List.{List}
use native.Mathlib.Omega.{arith}
use lib.Dec.{eqb, leb, ltb}
use borrow.Author.Tests.{eqb-true, eq-eqb, leb-true, le-leb, lt-leb, ltb-true, ltb-false}
use Rattle.survey.specs.Survey.{Survey, Cycle}
use Rattle.survey.specs.Sets.{In, Out, outside}
use Rattle.survey.specs.Sound.{Inside}
use Rattle.survey.proofs.Cycles.{ranking_no_cycle, rest_cycle}
use Rattle.survey.proofs.Totals.{not_both}
use Rattle.refusals.specs.Searches.{Tells}
use Rattle.cycles.specs.declared.tallies.Tally.{Tally}
use Rattle.cycles.specs.Tallies.{count_of, first_of, Kept, Lowered}
use Rattle.cycles.specs.Peeling.{left, Peels, none_owed, owed_from, Walks, Walked}
use Rattle.cycles.proofs.TallyLaws.{kept_all, kept_on}
use Rattle.cycles.proofs.Members.{size_all, size_lacks}
use Rattle.cycles.proofs.Threads.{thread_end}
use Rattle.cycles.proofs.Into.{into_some, one_further}
use Rattle.cycles.proofs.Peels.{left_yes, top_at_most, peeled_at_most, owed_same}
use Rattle.cycles.proofs.PeelSteps.{owed_counts, lower_one}

-- ---- the end: the stack is empty

pub peels_at : {s : Survey} {count : ℕ → ℕ} {top c : ℕ} {owed : ℕ → Bool} → top ≡ 0 → Peels s count top c owed → Peels s count 0 c owed
peels_at {s} {count} {c = c} {owed = owed} z p = subst (λ (x : ℕ). Peels s count x c owed) z p

module _ {s : Survey} (i : Inside s) {count : ℕ → ℕ} {c : ℕ} (p : Peels s count 0 c none_owed) where
  -- All are peeled: the order of peeling is a ranking.
  all_peeled : c ≡ s.n → Cycle s → ⊥
  all_peeled e = ranking_no_cycle (record { rank = p.rank; rises = λ k l. p.rises k l (size_all s.n p.peeled (p.counted ∙ e) (s.link k).to (i.to k l)) })

  -- Some are not: each of those waits for a link from one of them.
  some_left : c < s.n → Cycle s
  some_left h = rest_cycle i (record { first = missing.0; below = missing.1; member = flip missing.2; fed = λ g l m. fed g l m })
    where
      missing : (g : ℕ) × (g < s.n) × Out p.peeled g
      missing = size_lacks s.n p.peeled (omega (arith, p.counted))

      flip : {t : Bool} → t ≡ false → not t ≡ true
      flip e = rw e

      flop : (t : Bool) → not t ≡ true → t ≡ false
      flop true e = absurd (not_both e refl)
      flop false e = refl

      fed : (g : ℕ) → g < s.n → In (outside p.peeled) g → (k : ℕ) × (k < s.e) × In (outside p.peeled) (s.link k).from × ((s.link k).to ≡ g)
      fed g l m =
          let w = p.waits g l (flop (p.peeled g) m) (thread_end refl p.thread g) in
          let r = into_some s (left s p.peeled none_owed) g (omega (arith, w.0, w.1)) in
          (r.0, r.1, flip (left_yes s p.peeled r.0 r.2), r.3)

  pub peel_tells : Tells (Cycle s) (ltb c s.n)
  peel_tells = at (ltb c s.n) refl
    where
      at : (t : Bool) → ltb c s.n ≡ t → Tells (Cycle s) t
      at true e = some_left (ltb-true c s.n e)
      at false e = all_peeled (omega (arith, ltb-false c s.n e, peeled_at_most p))

-- ---- the walk along the links of group g, at link k

pub record Walking (s : Survey) (w₀ w : List Tally) (top₀ top g k : ℕ) : Type 0 where
  pub first : Kept (first_of w₀) (first_of w)
  pub keeps : (c : ℕ) → Peels s (count_of w₀) top₀ c (owed_from s g (first_of w₀ g)) → Peels s (count_of w) top c (owed_from s g k)
  -- from here to a link of g all links are those of g
  pub ahead : (i j : ℕ) → k ≤ i → i ≤ j → j < s.e → (s.link j).from ≡ g → (s.link i).from ≡ g

pub walk_start : {s : Survey} {w : List Tally} {top g : ℕ} → Walks s w top g → Walking s w w top top g (first_of w g)
walk_start {s} {w} {top} {g} x =
    record {
      first = kept_all;
      keeps = λ c p. p;
      ahead = λ i j f t l e. x.index.run j (omega arith) l i (subst (λ (h : ℕ). first_of w h ≤ i) (sym e) f) t ∙ e;
    }

module _ {s : Survey} {w₀ w : List Tally} {top₀ top g k : ℕ} (x : Walking s w₀ w top₀ top g k) where
  owed_here : (s.link k).from ≡ g → owed_from s g k k ≡ true
  owed_here e = rw (eq-eqb (s.link k).from g e, le-leb k k (omega arith))

  -- The next link of g has a count to be taken off.
  pub walk_counts : Walks s w₀ top₀ g → k < s.e → (s.link k).to < s.n → (s.link k).from ≡ g → 0 < count_of w (s.link k).to
  walk_counts y l b e = owed_counts (x.keeps y.c y.peels) k l b (owed_here e)

  pub walk_top : Walks s w₀ top₀ g → top ≤ s.n
  walk_top y = top_at_most (x.keeps y.c y.peels)

  pub walk_next : {w' : List Tally} {r : ℕ} → k < s.e → (s.link k).to < s.n → (s.link k).from ≡ g → Lowered (count_of w) (count_of w') (s.link k).to top r → Kept (first_of w)
      (first_of w') → Walking s w₀ w' top₀ r g (k + 1)
  walk_next l b e lo first =
      record {
        first = kept_on x.first first;
        keeps = λ c p. lower_one (x.keeps c p) k l b (owed_here e) not_after one_less lo;
        ahead = λ i j f. x.ahead i j (omega arith);
      }
    where
      not_after : owed_from s g (k + 1) k ≡ false
      not_after = rw (eq-eqb (s.link k).from g e, lt-leb (k + 1) k (omega arith))

      one_less : (j : ℕ) → (j ≡ k → ⊥) → owed_from s g k j ≡ owed_from s g (k + 1) j
      one_less j d = ap (λ (b : Bool). eqb (s.link j).from g && b) (one_further k j d)

  pub walk_end : (k < s.e → (s.link k).from ≡ g → ⊥) → Walked s w₀ w top₀ top g
  walk_end over = record { peels = λ c p. owed_same (x.keeps c p) none_owed (λ j l. none_left j l) (λ j z. absurd (not_both z refl)); first = x.first }
    where
      none_left : (j : ℕ) → j < s.e → owed_from s g k j ≡ false
      none_left j l = at (eqb (s.link j).from g) (leb k j) refl refl
        where
          at : (t u : Bool) → eqb (s.link j).from g ≡ t → leb k j ≡ u → (t && u) ≡ false
          at true true a b =
              let from-k : k ≤ j = leb-true k j b in
              absurd (over (omega arith) (x.ahead k j (omega arith) from-k l (eqb-true (s.link j).from g a)))
          at true false a b = refl
          at false u a b = refl
