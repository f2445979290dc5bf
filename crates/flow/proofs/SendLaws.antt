-- Laws of one send: what changes, and that the lists have the halves of the balances afterwards, for all weights for which they had them before.
use Prim.Native.Nat.{ℕ, ◌+◌, ◌-◌, ◌≤◌, ◌<◌}
use native.Mathlib.Omega.{arith}
use mathlib.Core.Path.{◌≡◌, refl, sym, ap, ◌∙◌}
use mathlib.Core.Bool.{Bool, true, false}
use mathlib.Core.List.{List}
use lib.ListN.{length, get_or, set, length-set}
use lib.Seq.{get_or-set_same, get_or-set_other}
use lib.Dec.{eqb}
use borrow.Author.Tests.{eqb-true, eqb-false, eq-eqb, ne_eqb}
use Rattle.survey.specs.Survey.{Survey}
use Rattle.survey.specs.Sets.{sum, only}
use Rattle.survey.specs.Rounds.{Weights}
use Rattle.survey.specs.Balance.{Amounts, gets, pays, credit, debit, excess, lack}
use Rattle.flow.specs.Sends.{Balanced, Moves}
use Rattle.flow.proofs.SumLaws.{sum_change}

-- link k has d more in x' than in x, and each other link the same
pub record Raised (s : Survey) (x x' : Amounts) (k d : ℕ) : Type 0 where
  pub at : x' k ≡ x k + d
  pub else : (i : ℕ) → (i ≡ k → ⊥) → x' i ≡ x i

module _ {s : Survey} {x x' : Amounts} {k d : ℕ} (l : k < s.e) (r : Raised s x x' k d) where
  -- of the sums over the links with an end at h, only those of that end of link k change
  ends_raised : (end : ℕ → ℕ) (h : ℕ) → sum s.e (λ i. only (eqb (end i) h) (x' i)) ≡ sum s.e (λ i. only (eqb (end i) h) (x i)) + only (eqb (end k) h) d
  ends_raised end h =
      sum_change s.e (λ i. only (eqb (end i) h) (x' i)) (λ i. only (eqb (end i) h) (x i)) k (only (eqb (end k) h) d) l
      (λ i b other. ap (only (eqb (end i) h)) (r.else i other)) (rw r.at (at (eqb (end k) h) (x k) d))
    where
      at : (t : Bool) (y d : ℕ) → only t (y + d) ≡ only t y + only t d
      at true y d = refl
      at false y d = refl

  pub gets_raised : (h : ℕ) → gets s x' h ≡ gets s x h + only (eqb (s.link k).from h) d
  unfolding gets
  gets_raised = ends_raised (λ i. (s.link i).from)

  pub pays_raised : (h : ℕ) → pays s x' h ≡ pays s x h + only (eqb (s.link k).to h) d
  unfolding pays
  pays_raised = ends_raised (λ i. (s.link i).to)

-- g's balance falls by d, p's rises by d, and each other stays
pub record Shifts (s : Survey) (w : Weights) (x x' : Amounts) (g p d : ℕ) : Type 0 where
  pub giver : credit s w x' g + debit s w x g + d ≡ credit s w x g + debit s w x' g
  pub receiver : credit s w x' p + debit s w x p ≡ credit s w x p + debit s w x' p + d
  pub else : (h : ℕ) → (h ≡ g → ⊥) → (h ≡ p → ⊥) → credit s w x' h + debit s w x h ≡ credit s w x h + debit s w x' h

module _ {s : Survey} {x x' : Amounts} {k g p d : ℕ} (w : Weights) (l : k < s.e) (apart : p ≡ g → ⊥) where
  -- paying: the amount grows
  pub paid_shifts : (s.link k).to ≡ g → (s.link k).from ≡ p → Raised s x x' k d → Shifts s w x x' g p d
  paid_shifts to from r =
      record {
        giver = omega (arith, rw (from, ne_eqb p g apart) at (gets_raised l r g), rw (to, eq-eqb g g refl) at (pays_raised l r g));
        receiver = omega (arith, rw (from, eq-eqb p p refl) at (gets_raised l r p), rw (to, ne_eqb g p (λ e. apart (sym e))) at (pays_raised l r p));
        else = λ h b c. omega (arith, rw (from, ne_eqb p h (λ e. c (sym e))) at (gets_raised l r h), rw (to, ne_eqb g h (λ e. b (sym e))) at (pays_raised l r h));
      }

  -- giving back: it falls
  pub gave_shifts : (s.link k).from ≡ g → (s.link k).to ≡ p → Raised s x' x k d → Shifts s w x x' g p d
  gave_shifts from to r =
      record {
        giver = omega (arith, rw (from, eq-eqb g g refl) at (gets_raised l r g), rw (to, ne_eqb p g apart) at (pays_raised l r g));
        receiver = omega (arith, rw (from, ne_eqb g p (λ e. apart (sym e))) at (gets_raised l r p), rw (to, eq-eqb p p refl) at (pays_raised l r p));
        else = λ h b c. omega (arith, rw (from, ne_eqb g h (λ e. b (sym e))) at (gets_raised l r h), rw (to, ne_eqb p h (λ e. c (sym e))) at (pays_raised l r h));
      }

-- ---- what that makes of the halves, where g has d to give

module _ {s : Survey} {w : Weights} {x x' : Amounts} {g p d : ℕ} (m : Shifts s w x x' g p d) (has : d ≤ excess s w x g) where
  pub giver_excess : excess s w x' g ≡ excess s w x g - d
  giver_excess = omega (arith, m.giver)

  pub giver_lack : lack s w x' g ≡ lack s w x g
  giver_lack = omega (arith, m.giver)

module _ {s : Survey} {w : Weights} {x x' : Amounts} {g p d : ℕ} (m : Shifts s w x x' g p d) where
  pub receiver_excess : excess s w x' p ≡ excess s w x p + (d - lack s w x p)
  receiver_excess = omega (arith, m.receiver)

  pub receiver_lack : lack s w x' p ≡ lack s w x p - d
  receiver_lack = omega (arith, m.receiver)

  pub else_excess : (h : ℕ) → (h ≡ g → ⊥) → (h ≡ p → ⊥) → excess s w x' h ≡ excess s w x h
  else_excess h b c = omega (arith, m.else h b c)

  pub else_lack : (h : ℕ) → (h ≡ g → ⊥) → (h ≡ p → ⊥) → lack s w x' h ≡ lack s w x h
  else_lack h b c = omega (arith, m.else h b c)

-- no lack rises
pub lack_falls : {s : Survey} {w : Weights} {x x' : Amounts} {g p d : ℕ} → Shifts s w x x' g p d → d ≤ excess s w x g → (h : ℕ) → lack s w x' h ≤ lack s w x h
lack_falls {s} {w} {x} {x'} {g} {p} {d} m has h = go (eqb h g) refl (eqb h p) refl
  where
    go : (t : Bool) → eqb h g ≡ t → (u : Bool) → eqb h p ≡ u → lack s w x' h ≤ lack s w x h
    go true a u b = rw (eqb-true h g a) (omega (arith, giver_lack m has))
    go false a true b = rw (eqb-true h p b) (omega (arith, receiver_lack m))
    go false a false b = omega (arith, else_lack m h (eqb-false h g a) (eqb-false h p b))

-- ---- the lists

module _ {k g p d y : ℕ} {amounts ex la amounts' ex' la' : List ℕ} (m : Moves k g p d y amounts ex la amounts' ex' la') (apart : p ≡ g → ⊥) where
  pub moved_giver : g < length ex → get_or ex' g 0 ≡ get_or ex g 0 - d
  moved_giver here = rw m.more (get_or-set_other (set ex g (get_or ex g 0 - d)) p g _ 0 (λ e. apart (sym e)) ∙ get_or-set_same ex g (get_or ex g 0 - d) 0 here)

  pub moved_receiver : p < length ex → get_or ex' p 0 ≡ get_or ex p 0 + (d - get_or la p 0)
  moved_receiver here =
      rw m.more
      (get_or-set_same (set ex g (get_or ex g 0 - d)) p _ 0 (simp length-set here)
      ∙ ap (λ v. v + (d - get_or la p 0)) (get_or-set_other ex g p (get_or ex g 0 - d) 0 apart))

  pub moved_else : (h : ℕ) → (h ≡ g → ⊥) → (h ≡ p → ⊥) → get_or ex' h 0 ≡ get_or ex h 0
  moved_else h b c = rw m.more (get_or-set_other (set ex g (get_or ex g 0 - d)) p h _ 0 c ∙ get_or-set_other ex g h (get_or ex g 0 - d) 0 b)

  pub moved_lack : p < length la → get_or la' p 0 ≡ get_or la p 0 - d
  moved_lack here = rw m.less (get_or-set_same la p (get_or la p 0 - d) 0 here)

  pub moved_lack_else : (h : ℕ) → (h ≡ p → ⊥) → get_or la' h 0 ≡ get_or la h 0
  moved_lack_else h c = rw m.less (get_or-set_other la p h (get_or la p 0 - d) 0 c)

  pub moved_ex_long : length ex' ≡ length ex
  moved_ex_long = rw m.more (simp length-set)

  pub moved_la_long : length la' ≡ length la
  moved_la_long = rw m.less (simp length-set)

  -- The lists have the halves of the balances afterwards.
  pub moved_balanced :
      {s : Survey} {w : Weights} {x x' : Amounts} → Shifts s w x x' g p d → d ≤ get_or ex g 0 → g < s.n → s.n ≤ length ex → s.n ≤ length la → p < s.n
      → Balanced s w x ex la → Balanced s w x' ex' la'
  moved_balanced {s} {w} {x} {x'} r has gn exn lan pn b =
      record { above = λ h l. high h l (eqb h g) refl (eqb h p) refl; below = λ h l. deep h l (eqb h g) refl (eqb h p) refl }
    where
      gives : d ≤ excess s w x g
      gives = omega (arith, b.above g gn)

      high : (h : ℕ) → h < s.n → (t : Bool) → eqb h g ≡ t → (u : Bool) → eqb h p ≡ u → get_or ex' h 0 ≡ excess s w x' h
      high h l true a u c = rw (eqb-true h g a) (omega (arith, moved_giver (omega arith), giver_excess r gives, b.above g gn))
      high h l false a true c = rw (eqb-true h p c) (omega (arith, moved_receiver (omega arith), receiver_excess r, b.above p pn, b.below p pn))
      high h l false a false c =
          moved_else h (eqb-false h g a) (eqb-false h p c) ∙ b.above h l ∙ sym (else_excess r h (eqb-false h g a) (eqb-false h p c))

      deep : (h : ℕ) → h < s.n → (t : Bool) → eqb h g ≡ t → (u : Bool) → eqb h p ≡ u → get_or la' h 0 ≡ lack s w x' h
      deep h l true a u c = rw (eqb-true h g a) (moved_lack_else g (λ e. apart (sym e)) ∙ b.below g gn ∙ sym (giver_lack r gives))
      deep h l false a true c = rw (eqb-true h p c) (omega (arith, moved_lack (omega arith), receiver_lack r, b.below p pn))
      deep h l false a false c = moved_lack_else h (eqb-false h p c) ∙ b.below h l ∙ sym (else_lack r h (eqb-false h g a) (eqb-false h p c))

-- ---- what `receive` stores
