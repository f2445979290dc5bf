-- Specification 6, "Rounds": weights, the heaviest set, and how many rounds there are.
use Rattle.std.specs.Prelude.{ℕ, suc, ◌+◌, ◌*◌, ◌≤◌, ◌≡◌}
use Rattle.survey.specs.Survey.{Survey}
use Rattle.survey.specs.Sets.{Set, Eligible, Contains, total, all_groups, dead_of, cost_of, D, L}

-- 6.1: a weight may be below 0. So it is kept as plus and minus; two such are compared crosswise, and nothing is subtracted.
pub record Weights : Type 0 where
  pub plus : ℕ → ℕ
  pub minus : ℕ → ℕ

-- 6.1: a group's weight is its dead count times L, less its live count times D, where D and L are those of the current set C.
abbrev pub weights : Survey → Set → Weights
weights s C = record { plus = λ g. dead_of s g * L s C; minus = λ g. cost_of s g * D s C }

-- 6.1: the weight of a set is the sum over its groups: what is added,
abbrev pub total_plus : Survey → Weights → Set → ℕ
total_plus s w S = total s w.plus S

-- 6.1: and what is taken off
abbrev pub total_minus : Survey → Weights → Set → ℕ
total_minus s w S = total s w.minus S

-- 6.2: B has no more weight than S
abbrev pub WeighsAtMost : Survey → Weights → Set → Set → Type 0
WeighsAtMost s w B S = total_plus s w B + total_minus s w S ≤ total_plus s w S + total_minus s w B

-- 6.3: S has the weight 0
abbrev pub WeighsZero : Survey → Weights → Set → Type 0
WeighsZero s w S = total_plus s w S ≡ total_minus s w S

-- 6.2: a closed set such that no closed set, the empty one counted too, has more weight
pub record Greatest (s : Survey) (w : Weights) (S : Set) : Type 0 where
  pub eligible : Eligible s S
  pub most : (B : Set) → Eligible s B → WeighsAtMost s w B S

-- 6.2: the heaviest set is one of these that contains every other.
pub record Heaviest (s : Survey) (w : Weights) (S : Set) : Type 0 where
  pub greatest : Greatest s w S
  pub largest : (B : Set) → Greatest s w B → Contains s S B

-- 6.3 and 6.4: from the current set C on there are k rounds, the last among them, and the set that they end with is P.
-- last: the heaviest set weighs 0, so it is the end. more: it weighs something else, so it is the current set of the next round.
pub data Rounds (s : Survey) : Set → ℕ → Set → Type 0 where
  last : {C S : Set} → Heaviest s (weights s C) S → WeighsZero s (weights s C) S → Rounds s C 1 S
  more : {C S P : Set} {k : ℕ} → Heaviest s (weights s C) S → (WeighsZero s (weights s C) S → ⊥) → Rounds s S k P → Rounds s C (suc k) P

-- 6.1: in the first round the current set is that of all groups.
abbrev pub RoundsOf : Survey → ℕ → Set → Type 0
RoundsOf s k P = Rounds s all_groups k P
