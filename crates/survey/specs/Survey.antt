-- Specification 3, "Survey": groups, links, and what links are like.
use Rattle.std.specs.Prelude.{ℕ, ◌<◌, ◌≡◌, ◌⊎◌}

-- 3.1: a group has two counts, of its dead objects and of its live ones.
pub record Group : Type 0 where
  pub dead : ℕ
  pub live : ℕ

-- 3.2: a link (p, q) allows for pointers from objects of p to objects of q. p is its from, q its to.
pub record Link : Type 0 where
  pub from : ℕ
  pub to : ℕ

-- 3.3: n groups and e links, both numbered from 0 in the order in which they stand.
pub record Survey : Type 0 where
  pub n : ℕ
  pub e : ℕ
  pub group : ℕ → Group
  pub link : ℕ → Link

-- 3.4: the second link stands above the first. Its from is greater, or its from is equal and its to is greater.
abbrev pub Ascends : Link → Link → Type 0
Ascends a b = (a.from < b.from) ⊎ ((a.from ≡ b.from) × (a.to < b.to))

-- 3.5: a way from group g along one link, or along more of them, one after the other
pub data ComesTo (s : Survey) (g : ℕ) : ℕ → Type 0 where
  one : (k : ℕ) {h : ℕ} → k < s.e → (s.link k).from ≡ g → (s.link k).to ≡ h → ComesTo s g h
  more : (k : ℕ) {h : ℕ} → k < s.e → ComesTo s g (s.link k).from → (s.link k).to ≡ h → ComesTo s g h

-- 3.5: a cycle is such a way that ends in the group where it began. A link of which both ends are that group is one by itself.
abbrev pub Cycle : Survey → Type 0
Cycle s = (g : ℕ) × ComesTo s g g
