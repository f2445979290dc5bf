-- Two answers that an exported function's promise allows are equal, and so are the lists afterwards.
use Prim.Native.Nat.{ℕ, ◌+◌, ◌*◌, ◌/◌, ◌%◌, ◌≤◌, ◌<◌}
use native.Mathlib.Omega.{arith}
use mathlib.Core.Path.{◌≡◌, refl, ap, sym, subst, ◌∙◌}
use mathlib.Core.List.{List}
use lib.ListN.{length, get_or}
use Rattle.std.specs.Prelude.{Result, Ok, Err}
use Rattle.survey.specs.declared.answers.Size.{Size}
use Rattle.survey.specs.declared.answers.Refusal.{Refusal}
use Rattle.survey.specs.Limits.{entry_bytes}
use Rattle.survey.specs.Words.{stands_at, lent, amounts_of}
use Rattle.survey.specs.Answers.{reading_number, choice_number, judgement_number}
use Rattle.survey.proofs.ReaderOne.{reader_one}
use Rattle.survey.proofs.ChooserOne.{SameChoice, chooser_one, checker_one}
use Rattle.words.specs.Words.{Bytes}
use Rattle.words.proofs.WordLaws.{long_word_bytes}
use Rattle.boundary.proofs.NumberLaws.{reading_number_one, choice_number_one, judgement_number_one}
use Rattle.corkgully.specs.Numbers.{ReadNumber, ChooseNumber, CheckNumber}
use Rattle.corkgully.proofs.Fit.{reading_small, choice_small, judgement_small}

pub record SameAnswer (x x' : ℕ) (g g' l l' : List ℕ) : Type 0 where
  pub answer : x ≡ x'
  pub groups : g ≡ g'
  pub links : l ≡ l'

pub read_number_one : {f groups links : List ℕ} {x x' : ℕ} {g g' l l' : List ℕ} → ReadNumber f groups links x g l → ReadNumber f groups links x' g' l' → SameAnswer x x' g g' l l'
read_number_one a b =
    let same = reader_one a.says b.says in
    record { answer = a.is ∙ ap (λ (r : Result Size Refusal). reading_number r) same.answer ∙ sym b.is; groups = same.groups; links = same.links }

-- The same number and the same marks; of the amounts all that is settled: the same past entry e, the same everywhere after a refusal, and the same
-- everywhere once the first e are. Those are the one exception: there can be several that pass the balance rule.
pub record SameChosen (e x x' : ℕ) (m m' a a' : List ℕ) : Type 0 where
  pub answer : x ≡ x'
  pub marks : m ≡ m'
  pub long : length a ≡ length a'
  pub rest : (i : ℕ) → entry_bytes * e ≤ i → get_or a i 0 ≡ get_or a' i 0
  pub after_refusal : 0 < x % 65_536 → a ≡ a'
  pub once_equal : Bytes a → Bytes a' → ((k : ℕ) → k < e → amounts_of a k ≡ amounts_of a' k) → a ≡ a'

pub choose_number_one :
    {n e : ℕ} {groups links marks amounts : List ℕ} {x x' : ℕ} {m m' a a' : List ℕ} → ChooseNumber n e groups links marks amounts x m a
    → ChooseNumber n e groups links marks amounts x' m' a' → SameChosen e x x' m m' a a'
choose_number_one {n} {e} {groups} {links} {marks} {amounts} {x} {x'} {m} {m'} {a} {a'} p q =
    record {
      answer = p.is ∙ ap (λ (r : Result ℕ Refusal). choice_number r) same.answer ∙ sym q.is;
      marks = same.marks;
      long = same.long;
      rest = same.rest;
      after_refusal = λ h. refused p.choice h p.is same.after_refusal;
      once_equal = λ b b' h. same.once_equal (λ i l. byte b b' h i l);
    }
  where
    same : SameChoice e p.choice q.choice m m' a a'
    same = chooser_one p.says q.says

    refused : (r : Result ℕ Refusal) → 0 < x % 65_536 → x ≡ choice_number r → ((y : Refusal) → r ≡ Err y → a ≡ a') → a ≡ a'
    refused (Err y) h z go = go y refl
    refused (Ok k) h z go = absurd (let low : choice_number (Ok k) % 65_536 ≡ 0 = omega arith in omega (arith, ap (λ (y : ℕ). y % 65_536) z))

    byte : Bytes a → Bytes a' → ((k : ℕ) → k < e → amounts_of a k ≡ amounts_of a' k) → (i : ℕ) → i < entry_bytes * e → get_or a i 0 ≡ get_or a' i 0
    byte b b' h i l =
        let place : stands_at lent (i / entry_bytes) + i % entry_bytes ≡ i = omega arith in
        subst (λ (j : ℕ). get_or a j 0 ≡ get_or a' j 0) place
        (long_word_bytes b b' (stands_at lent (i / entry_bytes)) (stands_at lent (i / entry_bytes)) (h (i / entry_bytes) (omega arith)) (i % entry_bytes) (omega arith))

pub check_number_one : {n e : ℕ} {groups links marks amounts : List ℕ} {x x' : ℕ} → CheckNumber n e groups links marks amounts x → CheckNumber n e groups links marks amounts x'
    → x ≡ x'
check_number_one a b = a.is ∙ ap (λ (r : Result (Unit {0}) Refusal). judgement_number r) (checker_one a.says b.says) ∙ sym b.is

-- ---- The answer is read back from its number: two answers with the same number are the same answer, whatever calls they answer. So no success has a
-- refusal's number, and n, e and the count of rounds are read back.

pub read_answer_one :
    {f groups links f₂ groups₂ links₂ : List ℕ} {x : ℕ} {g l g₂ l₂ : List ℕ} → Bytes f → Bytes f₂ → (a : ReadNumber f groups links x g l)
    (b : ReadNumber f₂ groups₂ links₂ x g₂ l₂) → a.reading ≡ b.reading
read_answer_one s s₂ a b =
    reading_number_one a.reading b.reading (reading_small a.reading s a.says) (reading_small b.reading s₂ b.says) (sym a.is ∙ b.is)

pub choose_answer_one :
    {n e n₂ e₂ : ℕ} {groups links marks amounts groups₂ links₂ marks₂ amounts₂ : List ℕ} {x : ℕ} {m c m₂ c₂ : List ℕ}
    (a : ChooseNumber n e groups links marks amounts x m c) (b : ChooseNumber n₂ e₂ groups₂ links₂ marks₂ amounts₂ x m₂ c₂) → a.choice ≡ b.choice
choose_answer_one {n} {e} {n₂} {e₂} {groups} {links} {marks} {amounts} {groups₂} {links₂} {marks₂} {amounts₂} a b =
    choice_number_one a.choice b.choice (choice_small a.choice a.says)
    (choice_small b.choice b.says) (sym a.is ∙ b.is)

pub check_answer_one :
    {n e n₂ e₂ : ℕ} {groups links marks amounts groups₂ links₂ marks₂ amounts₂ : List ℕ} {x : ℕ} (a : CheckNumber n e groups links marks amounts x)
    (b : CheckNumber n₂ e₂ groups₂ links₂ marks₂ amounts₂ x) → a.judgement ≡ b.judgement
check_answer_one {n} {e} {n₂} {e₂} {groups} {links} {marks} {amounts} {groups₂} {links₂} {marks₂} {amounts₂} a b =
    judgement_number_one a.judgement b.judgement (judgement_small a.judgement a.says)
    (judgement_small b.judgement b.says) (sym a.is ∙ b.is)
