-- Laws of the working copy: what is said of the copy of the links, with the amounts as numbers, is said of every survey that has the links; and
-- how the copy is made, link after link.
use Prim.Native.Nat.{ℕ, ◌+◌, ◌-◌, ◌*◌, ◌^◌, ◌<◌, ◌≤◌}
use mathlib.Core.Path.{◌≡◌, refl, sym, ap, ◌∙◌}
use mathlib.Core.Logic.{◌⊎◌, inl, inr}
use mathlib.Core.List.{List}
use mathlib.Core.Bool.{Bool, true, false}
use native.Mathlib.Omega.{arith}
use lib.ListN.{length, get_or, set, length-set}
use lib.Seq.{get_or-set_same, get_or-set_other}
use lib.Dec.{eqb}
use borrow.Author.Tests.{eqb-true, eqb-false}
use Rattle.survey.specs.Limits.{entry_bytes}
use Rattle.survey.specs.Survey.{Survey, ComesTo, one, more, Cycle}
use Rattle.survey.specs.Sets.{Set}
use Rattle.survey.specs.Rounds.{Weights}
use Rattle.survey.specs.Balance.{Amounts, gets, pays}
use Rattle.survey.specs.Words.{amounts_of}
use Rattle.survey.proofs.Sums.{sum_cong}
use Rattle.survey.specs.Draining.{Obeys}
use Rattle.words.proofs.WordLaws.{length_with_long_word, with_long_word_outside}
use Rattle.entries.specs.Entries.{with_amount}
use Rattle.entries.proofs.EntryLaws.{amount_with, amount_with_other}
use Rattle.flow.specs.Links.{end_of, Given}
use Rattle.flow.specs.Copies.{end_in, copied, Copyable, Copy, Copied, Put}
use Rattle.flow.specs.Drains.{Net, Least}
use Rattle.flow.specs.Sends.{Balanced}
use Rattle.flow.proofs.LinkLaws.{given_from, given_to, given_below}

-- ---- two surveys with the same links and amounts

pub record Alike (s s' : Survey) (x x' : Amounts) : Type 0 where
  pub groups : s.n ≡ s'.n
  pub count : s.e ≡ s'.e
  pub from : (k : ℕ) → k < s.e → (s.link k).from ≡ (s'.link k).from
  pub to : (k : ℕ) → k < s.e → (s.link k).to ≡ (s'.link k).to
  pub amount : (k : ℕ) → k < s.e → x k ≡ x' k

pub given_alike :
    {s : Survey} {n e : ℕ} {links ends₀ ends : List ℕ} {x x' : Amounts} → Given s n e links → Copied e links ends₀ ends → ((k : ℕ) → k < e → x k ≡ x' k) → Alike s
    (copied n e ends) x x'
given_alike v o same =
    record {
      groups = sym v.groups;
      count = sym v.count;
      from = λ k h. let b = given_below v h in given_from v k b ∙ sym (o.from k b);
      to = λ k h. let b = given_below v h in given_to v k b ∙ sym (o.to k b);
      amount = λ k h. same k (given_below v h);
    }

module _ {s s' : Survey} {x x' : Amounts} (a : Alike s s' x x') where
  -- a link of one is a link of the other
  below : {k : ℕ} → k < s'.e → k < s.e
  below h = rw a.count h

  alike_obeys : {T : Set} → Obeys s' x' T → Obeys s x T
  alike_obeys o =
      record {
        forth = λ k h m. rw (a.to k h) (o.forth k (rw a.count at h) (rw (a.from k h) at m));
        back = λ k h p m. rw (a.from k h) (o.back k (rw a.count at h) (rw (a.amount k h) at p) (rw (a.to k h) at m));
      }

  obeys_alike : {T : Set} → Obeys s x T → Obeys s' x' T
  obeys_alike o =
      record {
        forth = λ k b m. let h = below b in rw (a.to k h) at (o.forth k h (rw (a.from k h) m));
        back = λ k b p m. let h = below b in rw (a.from k h) at (o.back k h (rw (a.amount k h) p) (rw (a.to k h) m));
      }

  pub alike_least : {la : ℕ → ℕ} {T : Set} → Least s' x' la T → Least s x la T
  alike_least w =
      record {
        obeys = alike_obeys w.obeys;
        holds = λ g l. w.holds g (rw a.groups at l);
        least = λ U o h. record { has = λ g l. (w.least U (obeys_alike o) (λ i k. h i (rw a.groups k))).has g (rw a.groups at l) };
      }

  alike_gets : (g : ℕ) → gets s x g ≡ gets s' x' g
  unfolding gets
  alike_gets g = rw (← a.count) (sum_cong s.e _ _ (λ k h. rw (a.from k h, a.amount k h)))

  alike_pays : (g : ℕ) → pays s x g ≡ pays s' x' g
  unfolding pays
  alike_pays g = rw (← a.count) (sum_cong s.e _ _ (λ k h. rw (a.to k h, a.amount k h)))

  pub alike_balanced : {w : Weights} {ex la : List ℕ} → Balanced s' w x' ex la → Balanced s w x ex la
  alike_balanced b =
      record {
        above = λ g h. omega (arith, b.above g (rw a.groups at h), alike_gets g, alike_pays g);
        below = λ g h. omega (arith, b.below g (rw a.groups at h), alike_gets g, alike_pays g);
      }

  alike_comes : {p q : ℕ} → ComesTo s' p q → ComesTo s p q
  alike_comes (one k b f t) = let h = below b in one k h (a.from k h ∙ f) (a.to k h ∙ t)
  alike_comes (more k b c t) = let h = below b in more k h (rw (a.from k h) (alike_comes c)) (a.to k h ∙ t)

  pub alike_no_cycle : (Cycle s → ⊥) → Cycle s' → ⊥
  alike_no_cycle none c = none (c.0, alike_comes c.1)

-- ---- the copy of a whole survey

module _ {n e : ℕ} {links ends : List ℕ} where
  pub net_copyable : Net n e links → 2 * e ≤ length ends → Copyable e links ends
  net_copyable net room =
      record {
        few = net.few_links;
        links_long = net.links_long;
        ends_long = room;
        from = λ k l. omega (arith, net.from k l, net.few_groups);
        to = λ k l. omega (arith, net.to k l, net.few_groups);
      }

  module _ {ends' : List ℕ} (o : Copied e links ends ends') where
    pub net_copy : Net n e links → 2 * e ≤ length ends → Copy n e ends'
    net_copy net room =
        record {
          few_groups = net.few_groups;
          few_links = net.few_links;
          ends_long = omega (arith, o.long);
          from = λ k l. rw (o.from k l) (net.from k l);
          to = λ k l. rw (o.to k l) (net.to k l);
        }

-- ---- an end of a link, by its number: 0 the from, 1 the to

pub end_small : {end : ℕ} → (end ≡ 0) ⊎ (end ≡ 1) → end ≤ 1
end_small (inl z) = omega arith
end_small (inr z) = omega arith

pub other_end : {end : ℕ} → (end ≡ 0) ⊎ (end ≡ 1) → (1 - end ≡ 0) ⊎ (1 - end ≡ 1)
other_end (inl z) = inr (omega arith)
other_end (inr z) = inl (omega arith)

pub end_below : {n e end : ℕ} {ends : List ℕ} → Copy n e ends → (end ≡ 0) ⊎ (end ≡ 1) → (k : ℕ) → k < e → end_in ends end k < n
end_below net (inl z) = rw z net.from
end_below net (inr z) = rw z net.to

-- ---- link after link

-- the ends of link k go to their two places
pub copied_more :
    {k p q : ℕ} {links ends₀ ends : List ℕ} → 2 * k + 2 ≤ length ends₀ → p ≡ end_of links 0 k → q ≡ end_of links 4 k → Copied k links ends₀ ends
    → Copied (k + 1) links ends₀ (set (set ends (2 * k) p) (2 * k + 1) q)
unfolding end_in
copied_more {k} {p} {q} {links} {ends₀} {ends} room zp zq o =
    record {
      from = λ i h. first i h (eqb i k) refl;
      to = λ i h. second i h (eqb i k) refl;
      rest = λ i h. get_or-set_other (set ends (2 * k) p) (2 * k + 1) i q 0 (λ z. omega arith) ∙ get_or-set_other ends (2 * k) i p 0 (λ z. omega arith) ∙ o.rest i (omega arith);
      long = simp length-set o.long;
    }
  where
    first : (i : ℕ) → i < k + 1 → (t : Bool) → eqb i k ≡ t → get_or (set (set ends (2 * k) p) (2 * k + 1) q) (2 * i + 0) 0 ≡ end_of links 0 i
    first i h true r =
        let same : i ≡ k = eqb-true i k r in
        let at : 2 * i + 0 ≡ 2 * k = omega arith in
        rw at (get_or-set_other (set ends (2 * k) p) (2 * k + 1) (2 * k) q 0 (λ z. omega arith) ∙ get_or-set_same ends (2 * k) p 0 (omega (arith, o.long)) ∙ zp ∙ ap
        (end_of links 0) (sym same))
    first i h false r =
        let other : i ≡ k → ⊥ = eqb-false i k r in
        get_or-set_other (set ends (2 * k) p) (2 * k + 1) (2 * i + 0) q 0 (λ z. omega arith) ∙ get_or-set_other ends (2 * k) (2 * i + 0) p 0 (λ z. omega arith) ∙ o.from i
        (omega arith)

    second : (i : ℕ) → i < k + 1 → (t : Bool) → eqb i k ≡ t → get_or (set (set ends (2 * k) p) (2 * k + 1) q) (2 * i + 1) 0 ≡ end_of links 4 i
    second i h true r =
        let same : i ≡ k = eqb-true i k r in
        let at : 2 * i + 1 ≡ 2 * k + 1 = omega arith in
        rw at (get_or-set_same (set ends (2 * k) p) (2 * k + 1) q 0 (simp length-set (omega (arith, o.long))) ∙ zq ∙ ap (end_of links 4) (sym same))
    second i h false r =
        let other : i ≡ k → ⊥ = eqb-false i k r in
        get_or-set_other (set ends (2 * k) p) (2 * k + 1) (2 * i + 1) q 0 (λ z. omega arith) ∙ get_or-set_other ends (2 * k) (2 * i + 1) p 0 (λ z. omega arith) ∙ o.to i
        (omega arith)

pub put_more :
    {k : ℕ} {x a₀ a a' : List ℕ} → entry_bytes * k + 8 ≤ length a₀ → get_or x k 0 < 2 ^ 64 → a' ≡ with_amount a k (get_or x k 0) → Put k x a₀ a → Put (k + 1) x a₀ a'
put_more {k} {x} {a₀} {a} {a'} room small z p =
    rw z
    (record {
      at = λ i h. go i h (eqb i k) refl;
      rest = λ i h. with_long_word_outside a (entry_bytes * k) (get_or x k 0) i (inr (omega arith)) ∙ p.rest i (omega arith);
      long = length_with_long_word a (entry_bytes * k) (get_or x k 0) ∙ p.long;
    })
  where
    go : (i : ℕ) → i < k + 1 → (t : Bool) → eqb i k ≡ t → amounts_of (with_amount a k (get_or x k 0)) i ≡ get_or x i 0
    go i h true r = rw (eqb-true i k r) (amount_with a k (get_or x k 0) small (omega (arith, p.long)))
    go i h false r = let other : i ≡ k → ⊥ = eqb-false i k r in amount_with_other a k (get_or x k 0) i other ∙ p.at i (omega arith)
