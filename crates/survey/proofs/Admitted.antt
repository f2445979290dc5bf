-- What an admitted survey is, by name, so that nobody counts the rows of the table.
use Prim.Native.Nat.{ℕ, ◌-◌, ◌≤◌, ◌<◌, zero-le}
use native.Mathlib.Nat.{le_refl, le_trans}
use native.Mathlib.Decide.{dec_lt, ℕ_discrete}
use native.Mathlib.Omega.{arith}
use mathlib.Core.Path.{◌≡◌, refl}
use mathlib.Core.Bool.{Bool, true, false}
use mathlib.Core.Logic.{◌⊎◌, inl, inr, ⊎_elim}
use mathlib.Core.List.{List}
use Rattle.survey.specs.Limits.{group_limit, link_limit, count_limit, sum_limit}
use Rattle.survey.specs.Survey.{Link, Survey, Ascends}
use Rattle.survey.specs.Sets.{Set, all_groups, total, dead_of, cost_of, D, L, only}
use Rattle.survey.specs.Refusals.{AllClear, Clear}
use Rattle.survey.specs.Words.{survey_at}
use Rattle.survey.specs.SurveyFile.{survey_in}
use Rattle.survey.specs.Faults.{bad_count, bad_end, bad_order, any_cycle, no_dead, Admitted, AdmittedFile}
use Rattle.survey.specs.Sound.{Sound}
use Rattle.survey.proofs.SumOrder.{sum_at_most}
use Rattle.survey.proofs.Totals.{member_le}

-- whether one link stands below another can be told
ascends_decided : (a b : Link) → (Ascends a b → ⊥) ⊎ Ascends a b
ascends_decided a b = go (dec_lt a.from b.from) (ℕ_discrete a.from b.from) (dec_lt a.to b.to)
  where
    go : Dec (a.from < b.from) → Dec (a.from ≡ b.from) → Dec (a.to < b.to) → (Ascends a b → ⊥) ⊎ Ascends a b
    go (yes l) e t = inr (inl l)
    go (no d) (no e) t = inl (λ x. ⊎_elim (λ l. d l) (λ p. e p.0) x)
    go (no d) (yes e) (yes t) = inr (inr (e, t))
    go (no d) (yes e) (no t) = inl (λ x. ⊎_elim (λ l. d l) (λ p. t p.1) x)

not_not : {A : Type 0} → (A → ⊥) ⊎ A → ((A → ⊥) → ⊥) → A
not_not (inl d) n = absurd (n d)
not_not (inr a) n = a

-- An admitted survey is sound.
pub admitted_sound : {s : Survey} → Admitted s → Sound s
unfolding AllClear
admitted_sound {s} a =
    record {
      some_group = at_least (λ l. range (inl l));
      groups = at_most (λ l. range (inr (inl l)));
      links = at_most (λ l. range (inr (inr l)));
      dead = λ g l. at_most (λ m. counts.none g l (inl m));
      live = λ g l. at_most (λ m. counts.none g l (inr m));
      inside = record { from = λ k l. below (λ m. ends.none k l (inl m)); to = λ k l. below (λ m. ends.none k l (inr m)) };
      ascends = λ k p l. not_not (ascends_decided (s.link (k - 1)) (s.link k)) (λ d. order.none k l (p, d));
      without_cycle = λ c. cycle.none 0 (omega arith) c;
      some_dead = above (λ z. dead_one.none 0 (omega arith) (λ g l. none_dead z g l));
    }
  where
    range : (s.n < 1) ⊎ ((group_limit < s.n) ⊎ (link_limit < s.e)) → ⊥
    range = a.clear.0.none 0 (omega arith)

    counts : Clear (bad_count s)
    counts = a.clear.1.0

    ends : Clear (bad_end s)
    ends = a.clear.1.1.0

    order : Clear (bad_order s)
    order = a.clear.1.1.1.0

    cycle : Clear (any_cycle s)
    cycle = a.clear.1.1.1.1.0

    dead_one : Clear (no_dead s)
    dead_one = a.clear.1.1.1.1.1.0

    at_least : {x : ℕ} → (x < 1 → ⊥) → 0 < x
    at_least d = omega arith

    at_most : {x y : ℕ} → (y < x → ⊥) → x ≤ y
    at_most d = omega arith

    below : {x y : ℕ} → (y ≤ x → ⊥) → x < y
    below d = omega arith

    above : {x : ℕ} → (x ≡ 0 → ⊥) → 0 < x
    above d = omega arith

    none_dead : D s all_groups ≡ 0 → (g : ℕ) → g < s.n → dead_of s g ≡ 0
    none_dead z g l = omega (arith, member_le s (dead_of s) all_groups g l refl)

-- The survey of an admitted file is admitted.
pub file_survey : {f : List ℕ} → AdmittedFile f → Admitted (survey_in f)
unfolding AllClear survey_at
file_survey a = record { clear = (a.clear.1.1.1.0, a.clear.1.1.1.1.1.1.1) }

-- What D and L can come to: the counts of as many groups as there may be.
module _ {s : Survey} (x : Sound s) (S : Set) where
  some_of : (f : ℕ → ℕ) → ((g : ℕ) → g < s.n → f g ≤ count_limit) → total s f S ≤ sum_limit
  unfolding total
  some_of f h = omega (arith, sum_at_most s.n count_limit (λ g. only (S g) (f g)) (λ g l. le_trans (only_le (S g) (f g)) (h g l)), x.groups)
    where
      only_le : (t : Bool) (y : ℕ) → only t y ≤ y
      only_le true y = le_refl y
      only_le false y = zero-le

  pub dead_small : D s S ≤ sum_limit
  dead_small = some_of (dead_of s) x.dead

  pub cost_small : L s S ≤ sum_limit
  cost_small = some_of (cost_of s) x.live
