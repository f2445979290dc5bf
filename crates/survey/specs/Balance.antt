-- Specification 7, "Balance rule": claims, balances, settled sets, and what is accepted.
use Rattle.std.specs.Prelude.{ℕ, ◌+◌, ◌-◌, ◌<◌, ◌≡◌, eqb}
use Rattle.survey.specs.Survey.{Survey}
use Rattle.survey.specs.Sets.{Set, In, Out, Eligible, Contains, sum, only}
use Rattle.survey.specs.Pick.{Candidate}
use Rattle.survey.specs.Rounds.{Weights, weights}

-- 7.1: a claim has an amount for each link.
abbrev pub Amounts : Type 0
Amounts = ℕ → ℕ

-- 7.2: what is added, the amounts on the links with g as their from
unfoldable pub gets : Survey → Amounts → ℕ → ℕ
gets s a g = sum s.e (λ k. only (eqb (s.link k).from g) (a k))

-- 7.2: what is taken away, the amounts on the links with g as their to
unfoldable pub pays : Survey → Amounts → ℕ → ℕ
pays s a g = sum s.e (λ k. only (eqb (s.link k).to g) (a k))

-- 7.2: the balance of g begins with its weight; then what it gets is added, and what it pays is taken away. What is added, in all:
abbrev pub credit : Survey → Weights → Amounts → ℕ → ℕ
credit s w a g = w.plus g + gets s a g

-- 7.2: what is taken away, in all
abbrev pub debit : Survey → Weights → Amounts → ℕ → ℕ
debit s w a g = w.minus g + pays s a g

-- 7.2: how much the balance, which is credit less debit, is above 0
abbrev pub excess : Survey → Weights → Amounts → ℕ → ℕ
excess s w a g = credit s w a g - debit s w a g

-- 7.2: how much it is below 0
abbrev pub lack : Survey → Weights → Amounts → ℕ → ℕ
lack s w a g = debit s w a g - credit s w a g

-- 7.2: the balance is above 0
abbrev pub BalanceAbove0 : Survey → Weights → Amounts → ℕ → Type 0
BalanceAbove0 s w a g = debit s w a g < credit s w a g

-- 7.2: the balance is 0
abbrev pub BalanceIs0 : Survey → Weights → Amounts → ℕ → Type 0
BalanceIs0 s w a g = debit s w a g ≡ credit s w a g

-- 7.3: a settled set is closed, all balances in it are 0, and each link that goes out of it, from in and to out, has the amount 0.
pub record Settled (s : Survey) (w : Weights) (a : Amounts) (S : Set) : Type 0 where
  pub eligible : Eligible s S
  pub zero : (g : ℕ) → g < s.n → In S g → BalanceIs0 s w a g
  pub keeps : (k : ℕ) → k < s.e → In S (s.link k).from → Out S (s.link k).to → 0 < a k → ⊥

-- 7.3: the largest settled set contains all others.
pub record LargestSettled (s : Survey) (w : Weights) (a : Amounts) (S : Set) : Type 0 where
  pub settled : Settled s w a S
  pub largest : (B : Set) → Settled s w a B → Contains s S B

-- 7.4: a claim is accepted if all of this is so of the claimed set S, and only then. The weights are those of S.
pub record Accepted (s : Survey) (S : Set) (a : Amounts) : Type 0 where
  -- it is closed, and something in it is dead
  pub candidate : Candidate s S
  -- every balance is 0 or below
  pub no_balance_above : (g : ℕ) → g < s.n → BalanceAbove0 s (weights s S) a g → ⊥
  -- it is the largest settled set
  pub largest : LargestSettled s (weights s S) a S
