-- Two answers that the chooser's promise allows have the same refusal, marks and rounds. The first e amounts are the one exception: there can be
-- several that pass the balance rule. And the chooser's own pick and amounts are accepted by the checker's definition.
use Prim.Native.Nat.{ℕ, ◌*◌, ◌≤◌, ◌<◌}
use native.Mathlib.Decide.{dec_lt}
use native.Mathlib.Omega.{arith}
use mathlib.Core.Path.{◌≡◌, refl, sym, ap, ◌∙◌}
use mathlib.Core.Logic.{◌⊎◌, inl, inr}
use mathlib.Core.Bool.{Bool}
use mathlib.Core.List.{List}
use lib.ListN.{length, get_or}
use lib.Seq.{ext_get_or}
use lib.Dec.{eqb}
use Rattle.std.specs.Prelude.{Result, Ok, Err}
use Rattle.survey.specs.declared.answers.Refusal.{Refusal}
use Rattle.survey.specs.Limits.{entry_bytes, amount_limit}
use Rattle.survey.specs.Survey.{Survey}
use Rattle.survey.specs.Sets.{Same}
use Rattle.survey.specs.Words.{survey_at, survey_of, marked_set, amounts_of}
use Rattle.survey.specs.Refusals.{Verdict, fine, refused, AllClear, Answers}
use Rattle.survey.specs.Faults.{list_faults, claim_faults, chooser_faults, checker_faults}
use Rattle.survey.specs.Answers.{verdict_of}
use Rattle.survey.specs.Promises.{Marked, AmountsPut, ChosenLists, ChooserSays, CheckerSays}
use Rattle.survey.proofs.SameSets.{same_refl}
use Rattle.survey.proofs.Unique.{pick_one, rounds_one}
use Rattle.survey.proofs.Verdicts.{answers_one, fine_clear, clear_fine, afterwards, past}
use Rattle.survey.proofs.AnswersOne.{answer_one}
use Rattle.survey.proofs.Claims.{ClaimClear, accepted_clear}

-- marks that are 0 or 1 and mark the same groups are the same marks
bits_same : (x y : ℕ) → (x ≡ 0) ⊎ (x ≡ 1) → (y ≡ 0) ⊎ (y ≡ 1) → eqb x 1 ≡ eqb y 1 → x ≡ y
bits_same x y (inl p) (inl q) e = p ∙ sym q
bits_same x y (inr p) (inr q) e = p ∙ sym q
bits_same x y (inl p) (inr q) e = absurd (let z : ◌≡◌ {A = Bool} (eqb 0 1) (eqb 1 1) = rw (p, q) at e in let w : ◌≡◌ {A = ℕ} 0 1 = cc in omega arith)
bits_same x y (inr p) (inl q) e = absurd (let z : ◌≡◌ {A = Bool} (eqb 1 1) (eqb 0 1) = rw (p, q) at e in let w : ◌≡◌ {A = ℕ} 0 1 = cc in omega arith)

pub marked_one : {s : Survey} {before after after' : List ℕ} → Marked before after s.n → Marked before after' s.n → Same s (marked_set after) (marked_set after') → after ≡ after'
marked_one {s} {before} {after} {after'} a b e =
    ext_get_or 0 after after' (a.long ∙ sym b.long) (λ g l. at g (dec_lt g s.n))
  where
    at : (g : ℕ) → Dec (g < s.n) → get_or after g 0 ≡ get_or after' g 0
    at g (yes l) = bits_same (get_or after g 0) (get_or after' g 0) (a.bits g l) (b.bits g l) (e.at g l)
    at g (no d) = a.rest g (omega arith) ∙ sym (b.rest g (omega arith))

-- lists of amounts that are put alike, but for the first e entries: the same once those are
amounts_one :
    {before a a' : List ℕ} {e : ℕ} → AmountsPut before a e → AmountsPut before a' e
    → ((i : ℕ) → i < entry_bytes * e → get_or a i 0 ≡ get_or a' i 0) → a ≡ a'
amounts_one {before} {a} {a'} {e} x y h =
    ext_get_or 0 a a' (x.long ∙ sym y.long) (λ i l. at i (dec_lt i (entry_bytes * e)))
  where
    at : (i : ℕ) → Dec (i < entry_bytes * e) → get_or a i 0 ≡ get_or a' i 0
    at i (yes l) = h i l
    at i (no d) = x.rest i (omega arith) ∙ sym (y.rest i (omega arith))

-- The same answer and the same marks; and of the amounts all that the promise settles: they are the same past entry e, the same everywhere after a
-- refusal, and the same everywhere once the first e entries are.
pub record SameChoice (e : ℕ) (r r' : Result ℕ Refusal) (m m' a a' : List ℕ) : Type 0 where
  pub answer : r ≡ r'
  pub marks : m ≡ m'
  pub long : length a ≡ length a'
  pub rest : (i : ℕ) → entry_bytes * e ≤ i → get_or a i 0 ≡ get_or a' i 0
  pub after_refusal : (x : Refusal) → r ≡ Err x → a ≡ a'
  pub once_equal : ((i : ℕ) → i < entry_bytes * e → get_or a i 0 ≡ get_or a' i 0) → a ≡ a'

apart : {x : Refusal} {v : Verdict} → v ≡ refused x → v ≡ fine → ⊥
apart p q = let z : ◌≡◌ {A = ℕ} 0 1 = cc in omega arith

pub chooser_one :
    {n e : ℕ} {groups links marks amounts : List ℕ} {r r' : Result ℕ Refusal} {m m' a a' : List ℕ} → ChooserSays n e groups links marks amounts r m a
    → ChooserSays n e groups links marks amounts r' m' a' → SameChoice e r r' m m' a a'
unfolding survey_at
chooser_one {n} {e} {groups} {links} {marks} {amounts} {r} {r'} {m} {m'} {a} {a'} x y =
    at r r' (answers_one (chooser_faults n e groups links marks amounts) x.verdict y.verdict) x.lists y.lists
  where
    s : Survey
    s = survey_of n e groups links

    at : (r r' : Result ℕ Refusal) → verdict_of r ≡ verdict_of r' → ChosenLists s marks amounts r m a → ChosenLists s marks amounts r' m' a'
        → SameChoice e r r' m m' a a'
    at (Err u) (Err v) q p o =
        let same : a ≡ a' = p.1 ∙ sym o.1 in
        record {
          answer = cc;
          marks = p.0 ∙ sym o.0;
          long = ap length same;
          rest = λ i l. ap (λ (x : List ℕ). get_or x i 0) same;
          after_refusal = λ x z. same;
          once_equal = λ h. same;
        }
    at (Err u) (Ok k) q p o = absurd (apart refl q)
    at (Ok k) (Err v) q p o = absurd (apart q refl)
    at (Ok k) (Ok j) q p o =
        record {
          answer = ap (λ (i : ℕ). Ok i) (rounds_one p.counted o.counted same_refl).0;
          marks = marked_one p.marked o.marked (pick_one p.pick o.pick);
          long = p.put.long ∙ sym o.put.long;
          rest = λ i l. p.put.rest i l ∙ sym (o.put.rest i l);
          after_refusal = λ x z. let w : ◌≡◌ {A = ℕ} 0 1 = cc in absurd (omega arith);
          once_equal = amounts_one p.put o.put;
        }

-- two judgements that the checker's promise allows are equal
pub checker_one : {n e : ℕ} {groups links marks amounts : List ℕ} {r r' : Result (Unit {0}) Refusal} → CheckerSays n e groups links marks amounts r
    → CheckerSays n e groups links marks amounts r' → r ≡ r'
checker_one {n} {e} {groups} {links} {marks} {amounts} {r} {r'} x y = answer_one (checker_faults n e groups links marks amounts) r r' x.verdict y.verdict

-- The chooser's own claim passes every row of the checker, for every survey that it picks from.
pub own_accepted : {n e : ℕ} {groups links marks amounts : List ℕ} {rounds : ℕ} {m a : List ℕ} → ChooserSays n e groups links marks amounts (Ok rounds) m a → Answers
    (checker_faults n e groups links m a) fine
unfolding AllClear
own_accepted {n} {e} {groups} {links} {marks} {amounts} {rounds} {m} {a} x =
    past (record { none = λ k l o. c.0.none k l (rw (x.lists.marked.long, x.lists.put.long) at o) })
    (afterwards (list_faults s) c.1 (clear_fine (claim_faults s m (amounts_of a)) rows))
  where
    s : Survey
    s = survey_of n e groups links

    c : AllClear (chooser_faults n e groups links marks amounts)
    c = fine_clear (chooser_faults n e groups links marks amounts) x.verdict

    accepted : ClaimClear s (marked_set m) (amounts_of a)
    accepted = accepted_clear s (marked_set m) (amounts_of a) x.lists.accepted

    rows : AllClear (claim_faults s m (amounts_of a))
    rows = (
      record { none = λ g l d. d (x.lists.marked.bits g l) },
      (
        record { none = λ k l h. above k h (x.lists.put.small k l) },
        (accepted.closed, (accepted.dead, (accepted.balances, (accepted.largest, tt)))),
      ),
    )
      where
        above : (k : ℕ) → amount_limit < amounts_of a k → amounts_of a k ≤ amount_limit → ⊥
        above k h b = omega arith
