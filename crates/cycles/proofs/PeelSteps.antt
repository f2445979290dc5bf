-- Laws of peeling: one group is peeled, and one of its links is taken off the counts.
use Prim.Native.Nat.{ℕ, ◌+◌, ◌<◌, ◌≤◌}
use mathlib.Core.Path.{◌≡◌, refl, sym, ap, ◌∙◌, subst}
use mathlib.Core.Bool.{Bool, true, false, cond, ◌&&◌, ◌||◌, not}
use mathlib.Core.Logic.{⊎_elim}
use native.Mathlib.Decide.{ℕ_discrete}
use native.Mathlib.Omega.{arith}
use lib.Dec.{eqb, leb}
use borrow.Author.Tests.{eqb-true, eq-eqb, ne_eqb, le-leb}
use Rattle.survey.specs.Survey.{Survey}
use Rattle.survey.specs.Sets.{Set, In, Out, only}
use Rattle.survey.proofs.Totals.{by_test, not_both}
use Rattle.cycles.specs.Tallies.{Settled, pushed, waiting, Lowered}
use Rattle.cycles.specs.Peeling.{into, left, Threaded, without, Indexed, Peels, none_owed, owed_from}
use Rattle.cycles.proofs.Members.{joined, joined_self, joined_other, joined_in, joined_out, without_in, without_other, members_differ, size_joined}
use Rattle.cycles.proofs.Threads.{thread_moved, thread_push, thread_top}
use Rattle.cycles.proofs.Into.{into_cong, into_less, into_has}

-- ---- one group

-- a link into a group that no link comes to any more starts at a peeled group
from_peeled : (s : Survey) (P : Set) (k : ℕ) → k < s.e → into s (left s P none_owed) (s.link k).to ≡ 0 → In P (s.link k).from
from_peeled s P k l z =
    by_test (P (s.link k).from) (λ i. i)
    (λ o. absurd (omega (arith, into_has s (left s P none_owed) k l (rw o))))

-- The top of the stack is peeled; its links, which stand from its first on, are owed then.
module _ {s : Survey} {count : ℕ → ℕ} {top c : ℕ} (p : Peels s count top c none_owed) {first : ℕ → ℕ} (ix : Indexed s first 0) (g : ℕ) (t : top ≡ g + 1) where
  P : Set
  P = p.peeled

  ready : In p.ready g
  ready = (thread_top g t p.thread).0

  fresh : Out P g
  unfolding P
  fresh = p.apart g ready

  owes : ℕ → Bool
  owes = owed_from s g (first g)

  -- No count changes: a link of g was left, and is owed now.
  alike : (h : ℕ) → into s (left s P none_owed) h ≡ into s (left s (joined g P) owes) h
  unfolding owes
  alike = into_cong s (left s P none_owed) (left s (joined g P) owes) (λ k l. at k l (ℕ_discrete (s.link k).from g))
    where
      at : (k : ℕ) → k < s.e → Dec ((s.link k).from ≡ g) → left s P none_owed k ≡ left s (joined g P) (owed_from s g (first g)) k
      at k l (yes e) =
          let after : leb (first g) k ≡ true = le-leb (first g) k (subst (λ (h : ℕ). first h ≤ k) e (ix.early k (omega arith) l)) in
          rw (e, eq-eqb g g refl, fresh, after)
      at k l (no d) = rw (ne_eqb (s.link k).from g d)

  ranks : ℕ → ℕ
  ranks h = cond (eqb h g) c (p.rank h)

  ranks_self : ranks g ≡ c
  unfolding ranks
  ranks_self = rw (eq-eqb g g refl)

  ranks_other : (h : ℕ) → (h ≡ g → ⊥) → ranks h ≡ p.rank h
  unfolding ranks
  ranks_other h d = rw (ne_eqb h g d)

  none_come : (h : ℕ) → In (joined g P) h → into s (left s P none_owed) h ≡ 0
  unfolding P
  none_come h i = ⊎_elim (λ e. rw e (p.free g ready)) (λ j. p.freed h j) (joined_in g P h i)

  ranks_rise : (k : ℕ) → k < s.e → In (joined g P) (s.link k).to → ranks (s.link k).from < ranks (s.link k).to
  unfolding P
  ranks_rise k l i = at (ℕ_discrete (s.link k).to g)
    where
      start : In P (s.link k).from
      start = from_peeled s P k l (none_come (s.link k).to i)

      kept : ranks (s.link k).from ≡ p.rank (s.link k).from
      kept = ranks_other (s.link k).from (members_differ P start fresh)

      at : Dec ((s.link k).to ≡ g) → ranks (s.link k).from < ranks (s.link k).to
      at (yes e) = rw (kept, e, ranks_self) (p.below (s.link k).from start)
      at (no d) = rw (kept, ranks_other (s.link k).to d) (p.rises k l (rw (joined_other g P (s.link k).to d) at i))

  pub peel_one : {next : ℕ} → next ≡ count g → Peels s count next (c + 1) (owed_from s g (first g))
  unfolding P owes
  peel_one {next} under =
      record {
        peeled = joined g P;
        ready = without g p.ready;
        thread = subst (λ (x : ℕ). Threaded count (without g p.ready) x) (sym under) (thread_top g t p.thread).1;
        inside = λ h i. p.inside h (without_in g p.ready h i).1;
        apart = λ h i. let w = without_in g p.ready h i in joined_other g P h w.0 ∙ p.apart h w.1;
        waits = λ h l o r.
            let out = joined_out g P h o in
            let w = p.waits h l out.1 (sym (without_other g p.ready h out.0) ∙ r) in
            (w.0 ∙ alike h, w.1);
        free = λ h i. sym (alike h) ∙ p.free h (without_in g p.ready h i).1;
        freed = λ h i. sym (alike h) ∙ none_come h i;
        counted = size_joined s.n P g (p.inside g ready) fresh ∙ ap (λ (x : ℕ). x + 1) p.counted;
        rank = ranks;
        below = λ h i. at h i (ℕ_discrete h g);
        rises = ranks_rise;
        owing = λ k o. subst (λ (h : ℕ). In (joined g P) h) (sym (starts k o)) (joined_self g P);
      }
    where
      at : (h : ℕ) → In (joined g P) h → Dec (h ≡ g) → ranks h < c + 1
      at h i (yes e) = rw (e, ranks_self) (omega arith)
      at h i (no d) = rw (ranks_other h d) (omega (arith, p.below h (rw (joined_other g P h d) at i)))

      starts : (k : ℕ) → owed_from s g (first g) k ≡ true → (s.link k).from ≡ g
      starts k = both (eqb (s.link k).from g) refl
        where
          both : (u : Bool) → eqb (s.link k).from g ≡ u → (u && leb (first g) k) ≡ true → (s.link k).from ≡ g
          both true e o = eqb-true (s.link k).from g e
          both false e o = absurd (not_both o refl)

-- ---- one link

module _ {s : Survey} {count : ℕ → ℕ} {top c : ℕ} {owed : ℕ → Bool} (p : Peels s count top c owed) (k : ℕ) (l : k < s.e) (below : (s.link k).to < s.n) (o : owed k ≡ true) where
  P₁ : Set
  P₁ = p.peeled

  g₁ : ℕ
  g₁ = (s.link k).to

  was : 0 < into s (left s P₁ owed) g₁
  unfolding g₁
  was = into_has s (left s P₁ owed) k l (rw o (right (not (P₁ (s.link k).from))))
    where
      right : (t : Bool) → (t || true) ≡ true
      right true = refl
      right false = refl

  unpeeled : Out P₁ g₁
  unfolding P₁
  unpeeled = by_test (P₁ g₁) (λ i. absurd (omega (arith, was, p.freed g₁ i))) (λ z. z)

  unready : Out p.ready g₁
  unfolding P₁
  unready = by_test (p.ready g₁) (λ i. absurd (omega (arith, was, p.free g₁ i))) (λ z. z)

  -- The group at the link's end has a count.
  pub owed_counts : 0 < count (s.link k).to
  unfolding g₁ P₁
  owed_counts = (p.waits g₁ below unpeeled unready).1

  module _ {owed' : ℕ → Bool} (o' : owed' k ≡ false) (same : (j : ℕ) → (j ≡ k → ⊥) → owed j ≡ owed' j) where
    less : (h : ℕ) → into s (left s P₁ owed) h ≡ into s (left s P₁ owed') h + only (eqb g₁ h) 1
    unfolding g₁ P₁
    less = into_less s (left s P₁ owed) (left s P₁ owed') k l (rw (p.owing k o, o)) (rw (p.owing k o, o')) (λ j m d. ap (λ (b : Bool). not (P₁ (s.link j).from) || b) (same j d))

    less_self : into s (left s P₁ owed) g₁ ≡ into s (left s P₁ owed') g₁ + 1
    less_self = rw (eq-eqb g₁ g₁ refl) at (less g₁)

    less_other : (h : ℕ) → (h ≡ g₁ → ⊥) → into s (left s P₁ owed') h ≡ into s (left s P₁ owed) h
    less_other h d =
        let none : only (eqb g₁ h) 1 ≡ 0 = rw (ne_eqb g₁ h (λ z. d (sym z))) in
        omega (arith, less h)

    owing' : (j : ℕ) → owed' j ≡ true → In P₁ (s.link j).from
    unfolding P₁
    owing' j y = p.owing j (at (ℕ_discrete j k))
      where
        at : Dec (j ≡ k) → owed j ≡ true
        at (yes e) = absurd (not_both y (rw e o'))
        at (no d) = same j d ∙ y

    freed' : (h : ℕ) → In P₁ h → into s (left s P₁ owed') h ≡ 0
    unfolding P₁
    freed' h i = omega (arith, less h, p.freed h i)

    pub lower_one : {count' : ℕ → ℕ} {r : ℕ} → Lowered count count' (s.link k).to top r → Peels s count' r c owed'
    unfolding P₁ g₁
    lower_one {count'} {r} lo = go lo.settled
      where
        counts : count g₁ ≡ into s (left s P₁ owed) g₁
        counts = (p.waits g₁ below unpeeled unready).0

        between : lo.between g₁ ≡ into s (left s P₁ owed') g₁
        between = omega (arith, lo.less.at, counts, less_self)

        waits : (h : ℕ) → h < s.n → Out P₁ h → Out p.ready h → (h ≡ g₁ → ⊥) → (lo.between h ≡ into s (left s P₁ owed') h) × (0 < lo.between h)
        waits h m a b d =
            let w = p.waits h m a b in
            let still = lo.less.other h d in
            (still ∙ w.0 ∙ sym (less_other h d), omega (arith, still, w.1))

        go : Settled lo.between count' g₁ top r → Peels s count' r c owed'
        go (pushed z q t) =
            record {
              peeled = P₁;
              ready = joined g₁ p.ready;
              thread =
                  subst (λ (x : ℕ). Threaded count' (joined g₁ p.ready) x) (sym t)
                  (thread_push g₁ (thread_moved p.thread (λ h i. lo.less.other h (members_differ p.ready i unready)) (λ h. refl)) unready q);
              inside = λ h i. ⊎_elim (λ e. subst (λ (x : ℕ). x < s.n) (sym e) below) (p.inside h) (joined_in g₁ p.ready h i);
              apart = λ h i. ⊎_elim (λ e. ap P₁ e ∙ unpeeled) (p.apart h) (joined_in g₁ p.ready h i);
              waits = λ h m a b.
                  let out = joined_out g₁ p.ready h b in
                  let w = waits h m a out.1 out.0 in
                  let still = q.other h out.0 in
                  (still ∙ w.0, omega (arith, still, w.1));
              free = λ h i.
                  ⊎_elim (λ e. subst (λ (x : ℕ). into s (left s P₁ owed') x ≡ 0) (sym e) (sym between ∙ z)) (λ j. omega (arith, less h, p.free h j))
                  (joined_in g₁ p.ready h i);
              freed = freed';
              counted = p.counted;
              rank = p.rank;
              below = p.below;
              rises = p.rises;
              owing = owing';
            }
        go (waiting z q t) =
            record {
              peeled = P₁;
              ready = p.ready;
              thread =
                  subst (λ (x : ℕ). Threaded count' p.ready x) (sym t)
                  (thread_moved p.thread (λ h i. q.at h ∙ lo.less.other h (members_differ p.ready i unready)) (λ h. refl));
              inside = p.inside;
              apart = p.apart;
              waits = λ h m a b. at h m a b (ℕ_discrete h g₁);
              free = λ h i. omega (arith, less h, p.free h i);
              freed = freed';
              counted = p.counted;
              rank = p.rank;
              below = p.below;
              rises = p.rises;
              owing = owing';
            }
          where
            at : (h : ℕ) → h < s.n → Out P₁ h → Out p.ready h → Dec (h ≡ g₁) → (count' h ≡ into s (left s P₁ owed') h) × (0 < count' h)
            at h m a b (yes e) = rw (q.at h, e) (between, z)
            at h m a b (no d) = rw (q.at h) (waits h m a b d)
