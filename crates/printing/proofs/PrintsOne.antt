-- What is printed of a file is one text; so two answers of `print_pick` that its promise allows are equal, and so is what they leave in the list.
use Prim.Native.Nat.{ℕ, zero, suc, ◌≤◌, ◌<◌}
use native.Mathlib.Omega.{arith}
use mathlib.Core.Path.{◌≡◌, refl, sym, ap, ap₂, ◌∙◌}
use mathlib.Core.Bool.{Bool, cond}
use mathlib.Core.List.{List, [], ◌++◌}
use lib.ListN.{length, take, drop, length-append}
use lib.Seq.{take-append_seam}
use Rattle.survey.specs.declared.answers.Refusal.{Refusal}
use Rattle.survey.specs.Survey.{Survey}
use Rattle.survey.specs.Sets.{Set, Same, dead_of, cost_of}
use Rattle.survey.specs.SurveyFile.{survey_in}
use Rattle.survey.specs.Refusals.{Answers}
use Rattle.survey.specs.Refusals as refusals
use Rattle.survey.specs.Faults.{file_faults, AdmittedFile}
use Rattle.survey.proofs.SameSets.{same_refl, total_same}
use Rattle.survey.proofs.Unique.{pick_one, rounds_one}
use Rattle.survey.proofs.Verdicts.{answers_one, none_refused}
use Rattle.printing.specs.Texts.{line_feed, decimal}
use Rattle.printing.specs.Printing.{number_lines, pick_text, refused_line, Prints, picked, refused, Printed}

-- ---- the text

-- Sets with the same groups have the same numbers ..
numbers_same : (n : ℕ) (A B : Set) → ((g : ℕ) → g < n → A g ≡ B g) → number_lines n A ≡ number_lines n B
unfolding number_lines
numbers_same zero A B h = refl
numbers_same (suc g) A B h =
    ap₂ (λ (x : List ℕ) (y : List ℕ). x ++ y) (numbers_same g A B (λ i l. h i (omega arith))) (ap (λ (t : Bool). cond t (decimal g ++ line_feed) []) (h g (omega arith)))

-- .. and so the same text.
text_same : (s : Survey) {A B : Set} {j k : ℕ} → Same s A B → j ≡ k → pick_text s A j ≡ pick_text s B k
text_same s {A} {B} e q = rw (total_same e (λ g. 1), total_same e (dead_of s), total_same e (cost_of s), numbers_same s.n A B e.at, q)

apart : {f : List ℕ} {r : Refusal} → AdmittedFile f → Answers (file_faults f) (refusals.refused r) → ⊥
apart {f} a b = none_refused (file_faults f) a.clear b refl

same_refusal : {r r' : Refusal} → refusals.refused r ≡ refusals.refused r' → r ≡ r'
same_refusal q = cc

pub prints_one : {f x y : List ℕ} → Prints f x → Prints f y → x ≡ y
prints_one {f} (picked a p c) (picked b q d) = text_same (survey_in f) (pick_one p q) (rounds_one c d same_refl).0
prints_one (picked a p c) (refused r) = absurd (apart a r)
prints_one (refused r) (picked a p c) = absurd (apart a r)
prints_one {f} (refused a) (refused b) = ap refused_line (same_refusal (answers_one (file_faults f) a b))

-- ---- the answer and the list

module _ {f before after : List ℕ} {r : ℕ} (p : Printed f before r after) where
  -- the first r bytes of the list are the text
  pub printed_first : take r after ≡ p.text
  printed_first = rw (p.is, p.long) (take-append_seam p.text (drop (length p.text) before))

  pub printed_within : r ≤ length after
  printed_within = rw p.is (omega (arith, p.long, length-append p.text (drop r before)))

  pub printed_counts : r ≡ length (take r after)
  printed_counts = p.long ∙ sym (ap length printed_first)

pub printed_one : {f before a b : List ℕ} {r r' : ℕ} → Printed f before r a → Printed f before r' b → (r ≡ r') × (a ≡ b)
printed_one {f} {before} p q =
    let same : p.text ≡ q.text = prints_one p.prints q.prints in
    let long = p.long ∙ ap length same ∙ sym q.long in
    (long, p.is ∙ ap₂ (λ (x : List ℕ) (j : ℕ). x ++ drop j before) same long ∙ sym q.is)
