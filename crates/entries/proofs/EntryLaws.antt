-- Laws of entries.
-- Assumes nothing.
use Prim.Native.Nat.{ℕ, ◌+◌, ◌*◌, ◌^◌, ◌≤◌, ◌<◌}
use mathlib.Core.Path.{◌≡◌, refl, sym, ◌∙◌}
use mathlib.Core.Logic.{◌⊎◌, inl, inr}
use mathlib.Core.List.{List}
use mathlib.Core.Bool.{Bool, true, false}
use native.Mathlib.Omega.{arith}
use lib.Dec.{ltb}
use borrow.Author.Tests.{ltb-true, ltb-false}
use Rattle.survey.specs.Limits.{entry_bytes}
use Rattle.survey.specs.Survey as survey
use Rattle.survey.specs.declared.stands.Stand.{Stand}
use Rattle.survey.specs.Words.{lent, amounts_of}
use Rattle.entries.specs.declared.Pair.{Pair}
use Rattle.entries.specs.declared.Link.{Link}
use Rattle.entries.specs.Entries.{EntryWithin, PairIs, LinkIs, with_amount}
use Rattle.words.proofs.WordLaws.{long_word_with, long_word_with_other}

pub pair_one : {r r' : Pair} {l : List ℕ} {w : Stand} {k : ℕ} → PairIs r l w k → PairIs r' l w k → r ≡ r'
pair_one a b = λ i. record { first = (a.first ∙ sym b.first) i; second = (a.second ∙ sym b.second) i }

pub link_one : {r r' : Link} {k : survey.Link} → LinkIs r k → LinkIs r' k → r ≡ r'
link_one a b = λ i. record { from = (a.from ∙ sym b.from) i; to = (a.to ∙ sym b.to) i }

module _ (l : List ℕ) (k x : ℕ) where
  -- An amount that is written is read back ..
  pub amount_with : x < 2 ^ 64 → EntryWithin l lent k → amounts_of (with_amount l k x) k ≡ x
  amount_with small h = long_word_with l (entry_bytes * k) x small h

  -- .. and no other amount changes.
  pub amount_with_other : (j : ℕ) → (j ≡ k → ⊥) → amounts_of (with_amount l k x) j ≡ amounts_of l j
  amount_with_other j other = long_word_with_other l (entry_bytes * k) x (entry_bytes * j) (go (ltb j k) refl)
    where
      go : (t : Bool) → ltb j k ≡ t → (entry_bytes * j + 8 ≤ entry_bytes * k) ⊎ (entry_bytes * k + 8 ≤ entry_bytes * j)
      go true e = inl (omega (arith, ltb-true j k e))
      go false e = inr (omega (arith, ltb-false j k e))
