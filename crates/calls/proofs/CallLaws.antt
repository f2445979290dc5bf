-- How a call's admission is put together, and what is known of a call that has it.
use Prim.Native.Nat.{ℕ, ◌≤◌, ◌<◌}
use native.Mathlib.Omega.{arith}
use mathlib.Core.Logic.{inl, inr, ⊎_elim}
use mathlib.Core.List.{List}
use Rattle.survey.specs.Limits.{group_limit, link_limit}
use Rattle.survey.specs.Words.{lent, survey_of}
use Rattle.survey.specs.Refusals.{Verdict, fine, AllClear, Answers}
use Rattle.survey.specs.Faults.{OneShort, call_lists, list_faults, chooser_faults, Admitted}
use Rattle.survey.proofs.Verdicts.{past, fine_clear}
use Rattle.survey.proofs.GivenSurvey.{given_n, given_e}
use Rattle.survey.specs.Sound.{Sound}
use Rattle.survey.proofs.Admitted.{admitted_sound}
use Rattle.refusals.proofs.Looking.{whole_clear}
use Rattle.calls.specs.Calls.{LongEnough, AdmittedCall}

module _ (groups links marks amounts : List ℕ) where
  pub none_short : (OneShort (call_lists groups links marks amounts) → ⊥) → LongEnough groups links marks amounts
  unfolding OneShort
  none_short d =
      record {
        groups_have = at (λ h. d (inl h));
        links_have = at (λ h. d (inr (inl h)));
        marks_have = at (λ h. d (inr (inr (inl h))));
        amounts_have = at (λ h. d (inr (inr (inr (inl h)))));
      }
    where
      at : {x y : ℕ} → (x < y → ⊥) → y ≤ x
      at n = omega arith

  pub long_enough : LongEnough groups links marks amounts → OneShort (call_lists groups links marks amounts) → ⊥
  unfolding OneShort
  long_enough w = ⊎_elim (λ h. omega (arith, w.groups_have)) (⊎_elim (λ h. omega (arith, w.links_have))
      (⊎_elim (λ h. omega (arith, w.marks_have)) (⊎_elim (λ h. omega (arith, w.amounts_have)) (λ z. z))))

  module _ (n e : ℕ) where
    pub call_answered : {v : Verdict} → (OneShort (call_lists groups links marks amounts) → ⊥) → Answers (list_faults (survey_of n e groups links)) v → Answers
        (chooser_faults n e groups links marks amounts) v
    call_answered d a = past (whole_clear d) a

    -- what is clear of a call that is not refused
    pub call_clear : Answers (chooser_faults n e groups links marks amounts) fine → LongEnough groups links marks amounts × Admitted (survey_of n e groups links)
    unfolding AllClear
    call_clear a =
        let c : AllClear (chooser_faults n e groups links marks amounts) = fine_clear (chooser_faults n e groups links marks amounts) a in
        (none_short (c.0.none 0 (omega arith)), record { clear = c.1 })

    -- An admitted call: its lists are long enough, and its survey is sound.
    pub admitted_call : Answers (chooser_faults n e groups links marks amounts) fine → AdmittedCall n e groups links marks amounts
    admitted_call a =
        record {
          few_groups = few;
          few_links = few_links;
          groups_long = omega (arith, long.groups_have, few);
          links_long = omega (arith, long.links_have, few_links);
          marks_long = omega (arith, long.marks_have, few);
          amounts_long = omega (arith, long.amounts_have, few_links);
          sound = sound;
        }
      where
        long : LongEnough groups links marks amounts
        long = (call_clear a).0

        sound : Sound (survey_of n e groups links)
        sound = admitted_sound (call_clear a).1

        few : n ≤ group_limit
        few = rw (given_n n e groups lent links lent) at sound.groups

        few_links : e ≤ link_limit
        few_links = rw (given_e n e groups lent links lent) at sound.links
