-- How the reader's answers come together.
use Prim.Native.Nat.{ℕ, ◌≤◌, ◌<◌}
use native.Mathlib.Omega.{arith}
use mathlib.Core.Path.{◌≡◌, refl}
use mathlib.Core.Logic.{inl, inr}
use mathlib.Core.List.{List, [], ◌∷◌}
use Rattle.std.specs.Prelude.{Ok, Err}
use Rattle.survey.specs.declared.answers.Refusal.{Refusal}
use Rattle.survey.specs.Limits.{group_limit, link_limit}
use Rattle.survey.specs.Words.{entries}
use Rattle.survey.specs.SurveyFile.{n_in, e_in, first_group_block, first_link_block, in_blocks, survey_in}
use Rattle.survey.specs.Refusals.{fine, refused, Clear, AllClear, Answers}
use Rattle.survey.specs.Faults.{OneShort, too_short, group_list, link_list, survey_faults, file_faults}
use Rattle.survey.specs.Promises.{Filled, ReaderSays}
use Rattle.survey.proofs.Verdicts.{past, fine_clear, clear_parts}
use Rattle.refusals.specs.Refused.{refusal_whole}
use Rattle.refusals.proofs.Looking.{stop_whole, whole_clear}
use Rattle.blocks.specs.FileFaults.{block_faults}
use Rattle.reader.specs.Lent.{ListsShort}

pub blocks_clear : (f : List ℕ) → Answers (file_faults f) fine → AllClear (block_faults f)
blocks_clear f a = (clear_parts (block_faults f) (survey_faults (survey_in f)) (fine_clear (file_faults f) a)).0

-- lists that are not too short have room
pub group_room : (g l : List ℕ) → (ListsShort g l → ⊥) → group_limit ≤ entries g
unfolding OneShort
group_room g l d = at (λ h. d (inl h))
  where
    at : (entries g < group_limit → ⊥) → group_limit ≤ entries g
    at n = omega arith

pub link_room : (g l : List ℕ) → (ListsShort g l → ⊥) → link_limit ≤ entries l
unfolding OneShort
link_room g l d = at (λ h. d (inr (inl h)))
  where
    at : (entries l < link_limit → ⊥) → link_limit ≤ entries l
    at n = omega arith

module _ (f g l : List ℕ) where
  pub lists_refused : {r : Refusal} → ListsShort g l → r ≡ refusal_whole 1 → ReaderSays f g l (Err r) g l
  lists_refused h e = record { verdict = stop_whole h e; lists = (refl, refl) }

  module _ (d : ListsShort g l → ⊥) where
    long_enough : Clear (too_short (group_list (entries g) ∷ link_list (entries l) ∷ []))
    long_enough = whole_clear d

    pub file_refused : {r : Refusal} → Answers (file_faults f) (refused r) → ReaderSays f g l (Err r) g l
    file_refused a = record { verdict = past long_enough a; lists = (refl, refl) }

    pub file_read :
        {n e first : ℕ} {g' l' : List ℕ} → Answers (file_faults f) fine → n ≡ n_in f → e ≡ e_in f → first ≡ first_link_block n
        → Filled g g' n f (in_blocks first_group_block) → Filled l l' e f (in_blocks first) → ReaderSays f g l (Ok (record { n = n; e = e })) g' l'
    file_read a en ee ef x y =
        record {
          verdict = past long_enough a;
          lists = (en, ee, rw en at x, rw (ef, ee, en) at y);
        }
