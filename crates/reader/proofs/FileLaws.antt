-- A file that none of the rows 2 to 7 refuses has room for the pairs of its n groups and e links, where they are looked for.
use Prim.Native.Nat.{ℕ, ◌≤◌, ◌<◌}
use native.Mathlib.Omega.{arith}
use mathlib.Core.Path.{◌≡◌}
use mathlib.Core.Logic.{inl, inr}
use mathlib.Core.List.{List}
use Rattle.survey.specs.Limits.{group_limit, link_limit}
use Rattle.survey.specs.Words.{entries, survey_at}
use Rattle.survey.specs.SurveyFile.{n_in, e_in, first_group_block, first_link_block, in_blocks, survey_in}
use Rattle.survey.specs.Refusals.{AllClear, Answers, Verdict}
use Rattle.survey.specs.Faults.{bad_range, survey_faults, list_faults, file_faults}
use Rattle.survey.proofs.Verdicts.{afterwards}
use Rattle.survey.proofs.Small.{look_on}
use Rattle.views.specs.Views.{Within}
use Rattle.blocks.specs.FileFaults.{block_faults}
use Rattle.copies.specs.Copies.{Fillable}
use Rattle.blocks.proofs.LaidOut.{Layout, clear_layout, layout_within, groups_within, links_within}
use Rattle.admit.specs.Lists.{EntriesFit}

-- n and e are in their range
pub record InRange (f : List ℕ) : Type 0 where
  pub groups : n_in f ≤ group_limit
  pub links : e_in f ≤ link_limit

pub clear_range : (f : List ℕ) → AllClear (block_faults f) → InRange f
unfolding AllClear
clear_range f c =
    record {
      groups = at_most (λ h. c.1.1.1.0.none 0 (omega arith) (inr (inl h)));
      links = at_most (λ h. c.1.1.1.0.none 0 (omega arith) (inr (inr h)));
    }
  where
    at_most : {x y : ℕ} → (y < x → ⊥) → x ≤ y
    at_most d = omega arith

-- What the code calls n, e and the first link block is what the file says.
module _ (f : List ℕ) (c : AllClear (block_faults f)) where
  laid : Layout f (n_in f) (e_in f)
  laid = clear_layout c

  pub header_within : Within f 0
  header_within = layout_within laid 0 (omega arith)

  module _ {n e first : ℕ} (en : n ≡ n_in f) (ee : e ≡ e_in f) (ef : first ≡ first_link_block n) where
    same_first : first ≡ first_link_block (n_in f)
    same_first = rw en at ef

    pub groups_fit : EntriesFit n group_limit f (in_blocks first_group_block)
    groups_fit = record { fit = λ h j l. groups_within laid j (rw en at l) }

    pub links_fit : EntriesFit e link_limit f (in_blocks first)
    links_fit = record { fit = λ h j l. rw same_first (links_within laid j (rw ee at l)) }

    -- so many of the groups, or of the links, can be copied as there are, and fewer
    pub groups_fillable : {list : List ℕ} {count : ℕ} → count ≤ n → group_limit ≤ entries list → Fillable list count f first_group_block
    groups_fillable few h =
        record {
          room = omega (arith, (clear_range f c).groups, en);
          within = λ k l. groups_fit.fit (omega (arith, (clear_range f c).groups, en)) k (omega arith);
        }

    pub links_fillable : {list : List ℕ} {count : ℕ} → count ≤ e → link_limit ≤ entries list → Fillable list count f first
    links_fillable few h =
        record {
          room = omega (arith, (clear_range f c).links, ee);
          within = λ k l. links_fit.fit (omega (arith, (clear_range f c).links, ee)) k (omega arith);
        }

    -- After the rows 2 to 7 come those of the survey, 8 to 12; 5 was looked for before.
    pub then_survey : {v : Verdict} → Answers (list_faults (survey_at n e f (in_blocks first_group_block) f (in_blocks first))) v → Answers (file_faults f) v
    unfolding AllClear survey_at
    then_survey a =
        afterwards (block_faults f) c
        (look_on (bad_range (n_in f) (e_in f)) (survey_faults (survey_in f)) c.1.1.1.0 (rw (same_first, en, ee) at a))
