-- Ways: through which links who can pay into whom, and the same as rows of bits, in which the growing looks 64 groups up at once.
use Rattle.std.specs.Prelude.{ℕ, ◌+◌, ◌*◌, ◌<◌, ◌≤◌, ◌≡◌, List, length}
use Rattle.survey.specs.Limits.{group_limit}
use Rattle.survey.specs.Survey.{Survey}
use Rattle.survey.specs.Balance.{Amounts}
use Rattle.bits.specs.Bits.{bit, put_bit, cut_bit}
use Rattle.flow.specs.Copies.{copied, flowing, Copy}

-- Through link k, group g can pay into p: p is its from, whatever the amount; or p is its to, which g gives back what it got.
pub data Way (s : Survey) (x : Amounts) (k g p : ℕ) : Type 0 where
  pays : (s.link k).to ≡ g → (s.link k).from ≡ p → Way s x k g p
  gives_back : (s.link k).from ≡ g → (s.link k).to ≡ p → 0 < x k → Way s x k g p

-- Row p has those groups that can pay into p through one of the first m links, and no other.
pub record Ways (s : Survey) (x : Amounts) (m : ℕ) (ways : List ℕ) : Type 0 where
  pub sound : (p g : ℕ) → g < group_limit → bit ways p g ≡ 1 → (k : ℕ) × (k < m) × Way s x k g p
  pub complete : (k g p : ℕ) → k < m → Way s x k g p → bit ways p g ≡ 1

-- ---- one bit after the other

-- h has a bit in row g
pub record Notable (h g : ℕ) (rows : List ℕ) : Type 0 where
  pub few : h < group_limit
  pub room : 2 * g + 2 ≤ length rows

-- h stands in row g where the amount a is above 0, and doesn't where there is none
pub data Noted (h g a : ℕ) (rows : List ℕ) : List ℕ → Type 0 where
  stands : 0 < a → Noted h g a rows (put_bit rows g h)
  fails : a ≡ 0 → Noted h g a rows (cut_bit rows g h)

-- the two ends of a link have their rows
pub record Findable (p q : ℕ) (ways : List ℕ) : Type 0 where
  pub from : Notable p q ways
  pub to : Notable q p ways

-- Of a link from p to q, q can pay into p; and p into q where there is an amount a to give back.
pub data WayFound (p q a : ℕ) (ways : List ℕ) : List ℕ → Type 0 where
  both_ways : 0 < a → WayFound p q a ways (put_bit (put_bit ways p q) q p)
  one_way : a ≡ 0 → WayFound p q a ways (put_bit ways p q)

-- ---- all links

pub record Blank (n e : ℕ) (ends amounts ways : List ℕ) : Type 0 where
  pub net : Copy n e ends
  pub amounts_long : e ≤ length amounts
  pub ways_long : 2 * n ≤ length ways
  pub blank : (p g : ℕ) → bit ways p g ≡ 0

pub record WaysFound (n e : ℕ) (ends amounts ways ways' : List ℕ) : Type 0 where
  pub found : Ways (copied n e ends) (flowing amounts) e ways'
  pub long : length ways' ≡ length ways
