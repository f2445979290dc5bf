-- What is owed: every admitted survey has its own pick coming to it (Specification 1.4, demand 2). With lists long enough, the chooser's promise allows
-- no refusal of it.
use Prim.Native.Nat.{ℕ}
use mathlib.Core.Path.{◌≡◌, refl, sym, subst}
use mathlib.Core.List.{List}
use Rattle.std.specs.Prelude.{Result, Ok, Err}
use Rattle.survey.specs.declared.answers.Refusal.{Refusal}
use Rattle.survey.specs.Survey.{Survey}
use Rattle.survey.specs.Refusals.{AllClear, Answers}
use Rattle.survey.specs.Faults.{list_faults, chooser_faults, Admitted}
use Rattle.survey.specs.Answers.{verdict_of}
use Rattle.survey.specs.Promises.{Chooses, ChosenLists, ChooserSays}
use Rattle.survey.proofs.Verdicts.{none_refused}
use Rattle.drawn.proofs.Calls.{Lends}

module _ {s : Survey} {groups links marks amounts : List ℕ} (c : Lends s groups links marks amounts) (admitted : Admitted s) where
  call_clear : AllClear (chooser_faults s.n s.e groups links marks amounts)
  unfolding AllClear
  call_clear = (c.long, subst (λ (t : Survey). AllClear (list_faults t)) (sym c.survey) admitted.clear)

  -- What an allowed answer is: not a refusal, but the pick of the survey that was lent, with its rounds and with amounts that prove it.
  pub record Owed (r : Result ℕ Refusal) (marks' amounts' : List ℕ) : Type 0 where
    pub rounds : ℕ
    pub is : r ≡ Ok rounds
    pub chooses : Chooses s rounds marks amounts marks' amounts'

  pub owed : {r : Result ℕ Refusal} {marks' amounts' : List ℕ} → ChooserSays s.n s.e groups links marks amounts r marks' amounts' → Owed r marks' amounts'
  owed {r} {marks'} {amounts'} x = at r x.verdict (subst (λ (t : Survey). ChosenLists t marks amounts r marks' amounts') c.survey x.lists)
    where
      at : (r : Result ℕ Refusal) → Answers (chooser_faults s.n s.e groups links marks amounts) (verdict_of r) → ChosenLists s marks amounts r marks' amounts'
          → Owed r marks' amounts'
      at (Err y) v l = absurd (none_refused (chooser_faults s.n s.e groups links marks amounts) call_clear v refl)
      at (Ok k) v l = record { rounds = k; is = refl; chooses = l }
