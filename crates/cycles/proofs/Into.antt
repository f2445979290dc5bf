-- Laws of the links into a group: how their number goes with the test, and how the links from k on are tallied.
use Prim.Native.Nat.{ℕ, zero, suc, ◌+◌, ◌-◌, ◌<◌, ◌≤◌}
use mathlib.Core.Path.{◌≡◌, refl, sym, ap, ◌∙◌, subst}
use mathlib.Core.Bool.{Bool, true, false, ◌&&◌}
use mathlib.Core.Logic.{inl, inr, ⊎_elim}
use mathlib.Core.List.{List}
use native.Mathlib.Decide.{ℕ_discrete}
use native.Mathlib.Omega.{arith}
use lib.Dec.{eqb, leb}
use borrow.Author.Tests.{eqb-true, eq-eqb, ne_eqb, leb-true, leb-false, le-leb, lt-leb}
use Rattle.survey.specs.Limits.{link_limit}
use Rattle.survey.specs.Survey.{Survey}
use Rattle.survey.specs.Sets.{only}
use Rattle.survey.specs.Refusals.{Clear}
use Rattle.survey.specs.Faults.{bad_end, bad_order}
use Rattle.survey.proofs.SumOrder.{sum_at_most}
use Rattle.survey.proofs.Sums.{sum_cong, sum_zero, term_le}
use Rattle.survey.specs.Sound.{Inside}
use Rattle.cycles.specs.declared.tallies.Tally.{Tally}
use Rattle.cycles.specs.Tallies.{tally_limit, count_of, Blank, Put, Noted, Kept}
use Rattle.cycles.specs.Peeling.{into, Indexed, Tallied}
use Rattle.cycles.proofs.Members.{sum_one, sum_some, one_at_most}

module _ (s : Survey) where
  pub into_cong : (t t' : ℕ → Bool) → ((k : ℕ) → k < s.e → t k ≡ t' k) → (g : ℕ) → into s t g ≡ into s t' g
  unfolding into
  into_cong t t' same g = sum_cong s.e _ _ (λ k l. ap (λ (b : Bool). only (eqb (s.link k).to g && b) 1) (same k l))

  pub into_none : (t : ℕ → Bool) → ((k : ℕ) → k < s.e → t k ≡ false) → (g : ℕ) → into s t g ≡ 0
  unfolding into
  into_none t h g = sum_zero s.e _ (λ k l. rw (h k l) (never (eqb (s.link k).to g)))
    where
      never : (b : Bool) → only (b && false) 1 ≡ 0
      never true = refl
      never false = refl

  pub into_at_most : (t : ℕ → Bool) (g : ℕ) → into s t g ≤ s.e
  unfolding into
  into_at_most t g = omega (arith, sum_at_most s.e 1 _ (λ k l. one_at_most (eqb (s.link k).to g && t k)))

  -- One link less.
  pub into_less : (t t' : ℕ → Bool) (k : ℕ) → k < s.e → t k ≡ true → t' k ≡ false → ((j : ℕ) → j < s.e → (j ≡ k → ⊥) → t j ≡ t' j)
      → (g : ℕ) → into s t g ≡ into s t' g + only (eqb (s.link k).to g) 1
  unfolding into
  into_less t t' k l y z same g =
      sum_one s.e _ _ k (only (eqb (s.link k).to g) 1) l (rw (y, z) (at (eqb (s.link k).to g)))
      (λ j m d. ap (λ (b : Bool). only (eqb (s.link j).to g && b) 1) (same j m d))
    where
      at : (b : Bool) → only (b && true) 1 ≡ only (b && false) 1 + only b 1
      at true = refl
      at false = refl

  pub into_has : (t : ℕ → Bool) (k : ℕ) → k < s.e → t k ≡ true → 0 < into s t (s.link k).to
  unfolding into
  into_has t k l y =
      let one : only (eqb (s.link k).to (s.link k).to && t k) 1 ≡ 1 = rw (y, eq-eqb (s.link k).to (s.link k).to refl) in
      omega (arith, term_le s.e (λ j. only (eqb (s.link j).to (s.link k).to && t j) 1) k l)

  pub into_some : (t : ℕ → Bool) (g : ℕ) → 0 < into s t g → (k : ℕ) × (k < s.e) × (t k ≡ true) × ((s.link k).to ≡ g)
  unfolding into
  into_some t g h =
      let r = sum_some s.e (λ k. only (eqb (s.link k).to g && t k) 1) h in
      let b = both (eqb (s.link r.0).to g) (t r.0) r.2 in
      (r.0, r.1, b.1, eqb-true (s.link r.0).to g b.0)
    where
      both : (a b : Bool) → 0 < only (a && b) 1 → (a ≡ true) × (b ≡ true)
      both true true h = (refl, refl)
      both true false h = absurd (omega arith)
      both false b h = absurd (omega arith)

-- ---- rows 9 and 10 are clear

module _ (s : Survey) where
  pub inside : Clear (bad_end s) → Inside s
  inside c = record { from = λ k l. under (λ h. c.none k l (inl h)); to = λ k l. under (λ h. c.none k l (inr h)) }
    where
      under : {x y : ℕ} → (y ≤ x → ⊥) → x < y
      under d = omega arith

  pub froms_ascend : Clear (bad_order s) → (i j : ℕ) → i ≤ j → j < s.e → (s.link i).from ≤ (s.link j).from
  froms_ascend c i zero h l = rw (equal h) (omega arith)
    where
      equal : i ≤ 0 → i ≡ 0
      equal h = omega arith
  froms_ascend c i (suc j) h l = at (ℕ_discrete i (suc j)) (λ d. froms_ascend c i j d (omega arith))
    where
      next : (s.link j).from ≤ (s.link (suc j)).from
      next = stands (λ d. c.none (suc j) l (omega arith, rw (back j) (⊎_elim (λ a. omega arith) (λ a. omega arith))))
        where
          back : (j : ℕ) → suc j - 1 ≡ j
          back j = omega arith

          stands : {x y : ℕ} → (y < x → ⊥) → x ≤ y
          stands d = omega arith

      at : Dec (i ≡ suc j) → (i ≤ j → (s.link i).from ≤ (s.link j).from) → (s.link i).from ≤ (s.link (suc j)).from
      at (yes e) go = rw e (omega arith)
      at (no d) go = omega (arith, go (before d h), next)
        where
          before : (i ≡ suc j → ⊥) → i ≤ suc j → i ≤ j
          before d h = omega arith

-- ---- the tally

-- From k on and from k + 1 on differ at k alone.
pub one_further : (k j : ℕ) → (j ≡ k → ⊥) → leb k j ≡ leb (k + 1) j
one_further k j d = at (leb k j) refl
  where
    over : (j ≡ k → ⊥) → k ≤ j → k + 1 ≤ j
    over d h = omega arith

    at : (t : Bool) → leb k j ≡ t → leb k j ≡ leb (k + 1) j
    at true e = e ∙ sym (le-leb (k + 1) j (over d (leb-true k j e)))
    at false e = e ∙ sym (lt-leb (k + 1) j (omega (arith, leb-false k j e)))

-- .. so the link into its end is all that they count more.
counts_one : (s : Survey) (k : ℕ) → k < s.e → (g : ℕ) → into s (λ j. leb k j) g ≡ into s (λ j. leb (k + 1) j) g + only (eqb (s.link k).to g) 1
counts_one s k l = into_less s (λ j. leb k j) (λ j. leb (k + 1) j) k l (le-leb k k (omega arith)) (lt-leb (k + 1) k (omega arith)) (λ j m d. one_further k j d)

module _ {s : Survey} where
  pub tally_none : {w : List Tally} → Blank w → Tallied s w s.e
  tally_none b =
      record {
        count = λ g. b.zero g ∙ sym (into_none s (λ j. leb s.e j) (λ k l. lt-leb s.e k l) g);
        index = record { early = λ j a b. absurd (omega arith); run = λ j a b. absurd (omega arith) };
      }

  pub tally_at : {w : List Tally} {m k : ℕ} → m ≡ k → Tallied s w m → Tallied s w k
  tally_at {w} z t = subst (λ (x : ℕ). Tallied s w x) z t

  -- No more links come to a group than there are.
  pub tally_small : {w : List Tally} {k : ℕ} → s.e ≤ link_limit → Tallied s w k → (g : ℕ) → count_of w g + 1 < tally_limit
  tally_small {w} {k} h t g = omega (arith, t.count g, into_at_most s (λ j. leb k j) g)

  module _ (k : ℕ) (l : k < s.e) where
    pub index_next : {first first' : ℕ → ℕ} → Clear (bad_order s) → Indexed s first (k + 1) → Put first first' (s.link k).from k → Indexed s first' k
    index_next {first} {first'} c ix p =
        record { early = λ j a b. early j a b (ℕ_discrete (s.link j).from (s.link k).from); run = λ j a b i f t. run j a b i f t (ℕ_discrete (s.link j).from (s.link k).from) }
      where
        later : (j : ℕ) → k ≤ j → ((s.link j).from ≡ (s.link k).from → ⊥) → k + 1 ≤ j
        later j a d = at (ℕ_discrete j k)
          where
            over : (j ≡ k → ⊥) → k + 1 ≤ j
            over d = omega arith

            at : Dec (j ≡ k) → k + 1 ≤ j
            at (yes e) = absurd (d (rw e))
            at (no d) = over d

        early : (j : ℕ) → k ≤ j → j < s.e → Dec ((s.link j).from ≡ (s.link k).from) → first' (s.link j).from ≤ j
        early j a b (yes e) = rw (e, p.at) a
        early j a b (no d) = rw (p.other (s.link j).from d) (ix.early j (later j a d) b)

        run : (j : ℕ) → k ≤ j → j < s.e → (i : ℕ) → first' (s.link j).from ≤ i → i ≤ j → Dec ((s.link j).from ≡ (s.link k).from) → (s.link i).from ≡ (s.link j).from
        run j a b i f t (yes e) =
            let after : k ≤ i = rw (e, p.at) at f in
            omega (arith, froms_ascend s c k i after (omega arith), froms_ascend s c i j t b)
        run j a b i f t (no d) = ix.run j (later j a d) b i (rw (p.other (s.link j).from d) at f) t

    pub tally_next : {w w' : List Tally} {m : ℕ} → m ≡ k + 1 → Clear (bad_order s) → Tallied s w m → Noted w w' (s.link k).from (s.link k).to k → Tallied s w' k
    tally_next {w} {w'} z c u p = record { count = λ g. at g (ℕ_discrete g (s.link k).to); index = index_next c t.index p.first }
      where
        t : Tallied s w (k + 1)
        t = tally_at z u

        at : (g : ℕ) → Dec (g ≡ (s.link k).to) → count_of w' g ≡ into s (λ j. leb k j) g
        at g (yes e) =
            let one : only (eqb (s.link k).to g) 1 ≡ 1 = rw (eq-eqb (s.link k).to g (sym e)) in
            let here : count_of w' g ≡ count_of w g + 1 = rw e p.count.at in
            omega (arith, counts_one s k l g, t.count g)
        at g (no d) =
            let none : only (eqb (s.link k).to g) 1 ≡ 0 = rw (ne_eqb (s.link k).to g (λ z. d (sym z))) in
            omega (arith, counts_one s k l g, t.count g, p.count.other g d)

pub indexed_kept : {s : Survey} {first first' : ℕ → ℕ} {k : ℕ} → Kept first first' → Indexed s first k → Indexed s first' k
indexed_kept {s} {first} {first'} {k} e ix = subst (λ (f : ℕ → ℕ). Indexed s f k) (λ i h. sym (e.at h) i) ix
