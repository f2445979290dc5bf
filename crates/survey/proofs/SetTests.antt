-- A test for each thing that the definitions say of a set: closed, candidate, best, the pick, heaviest, the rounds.
-- Those that speak of all sets look through them, and so want links that end in groups.
use Prim.Native.Nat.{ℕ, zero, suc, ◌+◌, ◌*◌, ◌<◌}
use mathlib.Core.Path.{◌≡◌, refl}
use mathlib.Core.Bool.{Bool, true, false, not, cond, ◌&&◌, ◌||◌}
use mathlib.Core.Option.{Option, some, none}
use native.Mathlib.Nat.{suc_inj}
use native.Mathlib.Omega.{arith}
use lib.Dec.{eqb, leb, ltb}
use Rattle.survey.specs.Survey.{Survey}
use Rattle.survey.specs.Sets.{Set, Contains, Same, Closed, Eligible, D, L}
use Rattle.survey.specs.Pick.{Candidate, BetterSet, Best, IsPick}
use Rattle.survey.specs.Rounds.{Weights, weights, total_plus, total_minus, WeighsZero, Greatest, Heaviest, Rounds, last, more}
use Rattle.survey.specs.Sound.{Inside}
use Rattle.survey.proofs.SameSets.{same_refl, same_sym, contains_both, contains_same, zero_same, weighs_same, better_same}
use Rattle.survey.proofs.SameSets.{eligible_same, candidate_same, best_same, greatest_same, heaviest_same, rounds_start_same}
use Rattle.survey.proofs.Unique.{heaviest_one, rounds_one}
use Rattle.survey.proofs.Deciding.{Decides, told_no, told_iff, both, denied, implied, is_in, less, at_most, equal, all_below, all_below_lem}
use Rattle.survey.proofs.AllSets.{find_set, every_set, Found, found, nowhere, find_set_lem, every_set_lem}

unfoldable pub inside_test : Survey → Bool
inside_test s = all_below s.e (λ k. ltb (s.link k).from s.n && ltb (s.link k).to s.n)

pub inside_told : (s : Survey) → Decides (Inside s) (inside_test s)
unfolding inside_test
inside_told s =
    told_iff (λ f. record { from = λ k l. (f k l).0; to = λ k l. (f k l).1 }) (λ i k l. (i.from k l, i.to k l))
    (all_below_lem s.e (λ k l. both (less (s.link k).from s.n) (λ z. less (s.link k).to s.n)))

unfoldable pub contains_test : Survey → Set → Set → Bool
contains_test s A B = all_below s.n (λ g. not (B g) || A g)

pub contains_told : (s : Survey) (A B : Set) → Decides (Contains s A B) (contains_test s A B)
unfolding contains_test
contains_told s A B = told_iff (λ f. record { has = f }) (λ c. c.has) (all_below_lem s.n (λ g l. implied (is_in (B g)) (λ z. is_in (A g))))

unfoldable pub same_test : Survey → Set → Set → Bool
same_test s A B = contains_test s A B && contains_test s B A

pub same_told : (s : Survey) (A B : Set) → Decides (Same s A B) (same_test s A B)
unfolding same_test
same_told s A B =
    told_iff (λ z. contains_both z.0 z.1) (λ e. (record { has = λ g l h. rw (e.at g l) h }, record { has = λ g l h. rw (← e.at g l) h }))
    (both (contains_told s A B) (λ z. contains_told s B A))

unfoldable pub closed_test : Survey → Set → Bool
closed_test s S = all_below s.e (λ k. not (S (s.link k).to) || S (s.link k).from)

pub closed_told : (s : Survey) (S : Set) → Decides (Closed s S) (closed_test s S)
unfolding closed_test
closed_told s S =
    told_iff (λ f. record { back = f }) (λ c. c.back)
    (all_below_lem s.e (λ k l. implied (is_in (S (s.link k).to)) (λ z. is_in (S (s.link k).from))))

unfoldable pub eligible_test : Survey → Set → Bool
eligible_test s S = closed_test s S

pub eligible_told : (s : Survey) (S : Set) → Decides (Eligible s S) (eligible_test s S)
unfolding eligible_test
eligible_told s S = told_iff (λ c. record { closed = c }) (λ e. e.closed) (closed_told s S)

-- ---- the pick

unfoldable pub candidate_test : Survey → Set → Bool
candidate_test s S = eligible_test s S && ltb 0 (D s S)

pub candidate_told : (s : Survey) (S : Set) → Decides (Candidate s S) (candidate_test s S)
unfolding candidate_test
candidate_told s S =
    told_iff (λ z. record { eligible = z.0; dead = z.1 }) (λ c. (c.eligible, c.dead)) (both (eligible_told s S) (λ z. less 0 (D s S)))

abbrev pub better_test : Survey → Set → Set → Bool
better_test s A B = ltb (L s A * D s B) (L s B * D s A)

pub better_told : (s : Survey) (A B : Set) → Decides (BetterSet s A B) (better_test s A B)
better_told s A B = less (L s A * D s B) (L s B * D s A)

unfoldable pub best_test : Survey → Set → Bool
best_test s S = candidate_test s S && every_set s (λ B. not (candidate_test s B) || not (better_test s B S))

pub best_told : {s : Survey} → Inside s → (S : Set) → Decides (Best s S) (best_test s S)
unfolding best_test
best_told {s} i S =
    told_iff (λ z. record { candidate = z.0; unbeaten = z.1 }) (λ b. (b.candidate, b.unbeaten))
    (both (candidate_told s S)
    (λ z. every_set_lem (λ A B e f c b. f (candidate_same i (same_sym e) c) (better_same (same_sym e) same_refl b))
    (λ B. implied (candidate_told s B) (λ c. denied (better_told s B S)))))

unfoldable pub pick_test : Survey → Set → Bool
pick_test s S = best_test s S && every_set s (λ B. not (best_test s B) || contains_test s S B)

pub pick_told : {s : Survey} → Inside s → (S : Set) → Decides (IsPick s S) (pick_test s S)
unfolding pick_test
pick_told {s} i S =
    told_iff (λ z. record { best = z.0; contains = z.1 }) (λ p. (p.best, p.contains))
    (both (best_told i S)
    (λ b. every_set_lem (λ A B e f c. contains_same same_refl e (f (best_same i (same_sym e) c)))
    (λ B. implied (best_told i B) (λ z. contains_told s S B))))

-- ---- rounds

abbrev pub weighs_test : Survey → Weights → Set → Set → Bool
weighs_test s w B S = leb (total_plus s w B + total_minus s w S) (total_plus s w S + total_minus s w B)

unfoldable pub greatest_test : Survey → Weights → Set → Bool
greatest_test s w S = eligible_test s S && every_set s (λ B. not (eligible_test s B) || weighs_test s w B S)

pub greatest_told : {s : Survey} → Inside s → (w : Weights) (S : Set) → Decides (Greatest s w S) (greatest_test s w S)
unfolding greatest_test
greatest_told {s} i w S =
    told_iff (λ z. record { eligible = z.0; most = z.1 }) (λ g. (g.eligible, g.most))
    (both (eligible_told s S)
    (λ z. every_set_lem (λ A B e f c. weighs_same w e same_refl (f (eligible_same i (same_sym e) c)))
    (λ B. implied (eligible_told s B) (λ c. at_most (total_plus s w B + total_minus s w S) (total_plus s w S + total_minus s w B)))))

unfoldable pub heaviest_test : Survey → Weights → Set → Bool
heaviest_test s w S = greatest_test s w S && every_set s (λ B. not (greatest_test s w B) || contains_test s S B)

pub heaviest_told : {s : Survey} → Inside s → (w : Weights) (S : Set) → Decides (Heaviest s w S) (heaviest_test s w S)
unfolding heaviest_test
heaviest_told {s} i w S =
    told_iff (λ z. record { greatest = z.0; largest = z.1 }) (λ h. (h.greatest, h.largest))
    (both (greatest_told i w S)
    (λ g. every_set_lem (λ A B e f c. contains_same same_refl e (f (greatest_same i (same_sym e) c)))
    (λ B. implied (greatest_told i w B) (λ z. contains_told s S B))))

-- A round took S. Where S weighs 0, this was the last of the k + 1 rounds and S is P; otherwise the rest of them goes on from S.
abbrev round_test : Survey → Weights → ℕ → Set → (Set → Bool) → Option Set → Bool
round_test s w k P rest none = false
round_test s w k P rest (some S) = cond (eqb (total_plus s w S) (total_minus s w S)) (eqb k 0 && same_test s S P) (rest S)

unfoldable pub rounds_test : Survey → ℕ → Set → Set → Bool
rounds_test s zero C P = false
rounds_test s (suc k) C P = round_test s (weights s C) k P (λ S. rounds_test s k S P) (find_set s (heaviest_test s (weights s C)))

-- Any rounds from C begin with one that takes a set.
rounds_first : {s : Survey} {C P : Set} {k : ℕ} → Rounds s C k P → (S : Set) × Heaviest s (weights s C) S × (0 < k)
rounds_first (last {S = S} h z) = (S, h, omega arith)
rounds_first (more {S = S} h z r) = (S, h, omega arith)

-- Where the set that the first round takes does not weigh 0, the others go on from it.
rounds_rest : {s : Survey} {C S P : Set} {m : ℕ} (k : ℕ) → Heaviest s (weights s C) S → (WeighsZero s (weights s C) S → ⊥) → m ≡ suc k
    → Rounds s C m P → Rounds s S k P
rounds_rest {s} {C} k h d e (last h' z') = absurd (d (zero_same (weights s C) (heaviest_one h' h) z'))
rounds_rest k h d e (more h' z' r') = rw (← suc_inj e) (rounds_start_same (heaviest_one h' h) r')

pub rounds_told : {s : Survey} → Inside s → (k : ℕ) (C P : Set) → Decides (Rounds s C k P) (rounds_test s k C P)
unfolding rounds_test
rounds_told i zero C P = told_no (λ r. omega (arith, (rounds_first r).2))
rounds_told {s} i (suc k) C P = go (λ S. rounds_told i k S P) (find_set_lem (λ A B e h. heaviest_same i e h) (heaviest_told i w))
  where
    w : Weights
    w = weights s C

    ends_told : {S : Set} → Heaviest s w S → WeighsZero s w S → Decides (Rounds s C (suc k) P) (eqb k 0 && same_test s S P)
    ends_told {S} h z =
        told_iff (λ x. rw x.0 (last (heaviest_same i x.1 h) (zero_same w x.1 z)))
        (λ r. let x = rounds_one (last h z) r same_refl in (omega (arith, x.0), x.1))
        (both (equal k 0) (λ y. same_told s S P))

    step : {S : Set} (b : Bool) → Decides (WeighsZero s w S) b → Heaviest s w S → Decides (Rounds s S k P) (rounds_test s k S P)
        → Decides (Rounds s C (suc k) P) (cond b (eqb k 0 && same_test s S P) (rounds_test s k S P))
    step true z h rest = ends_told h (z.so refl)
    step false z h rest = told_iff (λ r. more h (z.not_so refl) r) (λ r. rounds_rest k h (z.not_so refl) refl r) rest

    go : {o : Option Set} → ((S : Set) → Decides (Rounds s S k P) (rounds_test s k S P)) → Found (Heaviest s w) o
        → Decides (Rounds s C (suc k) P) (round_test s w k P (λ S. rounds_test s k S P) o)
    go rest (nowhere f) = told_no (λ r. let x = rounds_first r in f x.0 x.1)
    go rest (found {S = S} h) = step (eqb (total_plus s w S) (total_minus s w S)) (equal (total_plus s w S) (total_minus s w S)) h (rest S)
