-- Laws of chains: how they grow from the last link down, and that those of one end leave those of the other alone.
use Prim.Native.Nat.{ℕ, ◌+◌, ◌-◌, ◌<◌, ◌≤◌}
use mathlib.Core.Path.{◌≡◌, refl, sym, ◌∙◌}
use mathlib.Core.Logic.{◌⊎◌, inl, inr}
use mathlib.Core.List.{List}
use mathlib.Core.Bool.{Bool, true, false}
use native.Mathlib.Omega.{arith}
use lib.ListN.{length, get_or, set, length-set}
use lib.Seq.{get_or-set_same, get_or-set_other}
use lib.Dec.{eqb}
use borrow.Author.Tests.{eqb-true, eqb-false}
use Rattle.survey.specs.Limits.{group_limit, link_limit}
use Rattle.flow.specs.Copies.{end_in}
use Rattle.flow.specs.Chains.{IsNext, head_at, next_at, Index, Chainable, Aside, Chained}

-- where the building stands: the links from k on are in their chains
pub record Chaining (n e end : ℕ) (ends : ℕ → ℕ) (chains₀ : List ℕ) (k : ℕ) (chains : List ℕ) : Type 0 where
  pub within : k ≤ e
  pub heads : (g : ℕ) → g < n → IsNext e ends g k (get_or chains (head_at end g) 0)
  pub nexts : (j : ℕ) → k ≤ j → j < e → IsNext e ends (ends j) (j + 1) (get_or chains (next_at end j) 0)
  pub else : (i : ℕ) → Aside end i → get_or chains i 0 ≡ get_or chains₀ i 0
  pub long : length chains ≡ length chains₀

module _ {ends : List ℕ} {n e end : ℕ} {chains₀ : List ℕ} (p : Chainable ends n e end chains₀) where
  -- link j goes in front of the chain of its end
  pub chain_more :
      {k j : ℕ} {chains : List ℕ} → j ≡ k - 1 → 0 < k → Chaining n e end (end_in ends end) chains₀ k chains
      → Chaining n e end (end_in ends end) chains₀ j (set (set chains (next_at end j) (get_or chains (head_at end (end_in ends end j)) 0)) (head_at end (end_in ends end j)) j)
  chain_more {k} {j} {chains} q h c =
      record {
        within = omega (arith, c.within);
        heads = λ g b. front g b (eqb g own) refl;
        nexts = λ i a b. link i a b (eqb i j) refl;
        else =
            λ i a.
            get_or-set_other mid (head_at end own) i j 0 (a.no_head own (omega (arith, own_below, p.few_groups)))
            ∙ get_or-set_other chains (next_at end j) i (get_or chains (head_at end own) 0) 0 (a.no_next j (omega (arith, p.few_links, c.within))) ∙ c.else i a;
        long = simp length-set c.long;
      }
    where
      at : k ≡ j + 1
      at = omega arith

      own : ℕ
      own = end_in ends end j

      own_below : own < n
      own_below = p.below j (omega (arith, c.within))

      mid : List ℕ
      mid = set chains (next_at end j) (get_or chains (head_at end own) 0)

      front : (g : ℕ) → g < n → (t : Bool) → eqb g own ≡ t → IsNext e (end_in ends end) g j (get_or (set mid (head_at end own) j) (head_at end g) 0)
      front g b true r =
          rw (eqb-true g own r, get_or-set_same mid (head_at end own) j 0 (simp length-set (omega (arith, own_below, p.few_groups, p.small, p.long, c.long))))
          (record { from = omega arith; within = omega (arith, c.within); hit = λ x. refl; first = λ i x y. absurd (omega arith) })
      front g b false r =
          let other : g ≡ own → ⊥ = eqb-false g own r in
          let old = c.heads g b in
          rw (
            get_or-set_other mid (head_at end own) (head_at end g) j 0 (λ z. other (omega arith)),
            get_or-set_other chains (next_at end j) (head_at end g) (get_or chains (head_at end own) 0) 0 (λ z. omega (arith, p.few_groups, p.small)),
          )
          (record {
            from = omega (arith, old.from);
            within = old.within;
            hit = old.hit;
            first = λ i x y z. earlier i x y z (eqb i j) refl;
          })
        where
          earlier : (i : ℕ) → j ≤ i → i < get_or chains (head_at end g) 0 → end_in ends end i ≡ g → (t : Bool) → eqb i j ≡ t → ⊥
          earlier i x y z true u = eqb-false g own r (rw (eqb-true i j u) at (sym z))
          earlier i x y z false u = let later : i ≡ j → ⊥ = eqb-false i j u in (c.heads g b).first i (omega arith) y z

      link : (i : ℕ) → j ≤ i → i < e → (t : Bool) → eqb i j ≡ t → IsNext e (end_in ends end) (end_in ends end i) (i + 1) (get_or (set mid (head_at end own) j) (next_at end i) 0)
      link i a b true r =
          rw (
            get_or-set_other mid (head_at end own) (next_at end i) j 0 (λ z. omega (arith, own_below, p.few_groups, p.small)),
            eqb-true i j r,
            get_or-set_same chains (next_at end j) (get_or chains (head_at end own) 0) 0 (omega (arith, c.within, p.few_links, p.small, p.long, c.long)),
          )
          (rw at at (c.heads own own_below))
      link i a b false r =
          let other : i ≡ j → ⊥ = eqb-false i j r in
          rw (
            get_or-set_other mid (head_at end own) (next_at end i) j 0 (λ z. omega (arith, own_below, p.few_groups, p.small)),
            get_or-set_other chains (next_at end j) (next_at end i) (get_or chains (head_at end own) 0) 0 (λ z. other (omega arith)),
          )
          (c.nexts i (omega arith) b)

-- ---- those of the other end

pub other_head : {g : ℕ} → g < group_limit → Aside 0 (head_at 1 g)
other_head l = record { no_head = λ h k z. omega arith; no_next = λ h k z. omega arith }

-- the chains of the from stay as those of the to are built
pub index_stays : {ends : List ℕ} {n e : ℕ} {chains chains' : List ℕ} → n ≤ group_limit → e ≤ link_limit → Index n e 0 (end_in ends 0) chains → Chained ends n e 1 chains chains'
    → Index n e 0 (end_in ends 0) chains'
index_stays few many x c =
    record {
      heads = λ g l. rw (c.else (head_at 0 g) (record { no_head = λ h k z. omega arith; no_next = λ h k z. omega arith })) (x.heads g l);
      nexts = λ k l. rw (c.else (next_at 0 k) (record { no_head = λ h m z. omega arith; no_next = λ h m z. omega arith })) (x.nexts k l);
      long = omega (arith, x.long, c.long);
    }

-- ---- the chains of an end, by its number

pub index_of :
    {n e end : ℕ} {chains : List ℕ} (ends : List ℕ) → (end ≡ 0) ⊎ (end ≡ 1) → Index n e 0 (end_in ends 0) chains → Index n e 1 (end_in ends 1) chains
    → Index n e end (end_in ends end) chains
index_of ends (inl z) forth back = rw z forth
index_of ends (inr z) forth back = rw z back
