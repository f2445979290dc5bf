-- What the rows of the blocks leave of a file, and how they go on to those of the survey.
use Prim.Native.Nat.{ℕ, ◌+◌, ◌*◌, ◌%◌, ◌≤◌, ◌<◌}
use mathlib.Core.Path.{◌≡◌, refl}
use mathlib.Core.Logic.{◌⊎◌, inl, inr}
use mathlib.Core.List.{List, ◌++◌}
use native.Mathlib.Omega.{arith}
use lib.ListN.{length}
use Rattle.survey.specs.Limits.{block_bytes}
use Rattle.survey.specs.SurveyFile.{file_limit, survey_in}
use Rattle.survey.specs.Refusals.{AllClear}
use Rattle.survey.specs.Faults.{survey_faults, file_faults}
use Rattle.views.specs.Views.{Within}
use Rattle.blocks.specs.FileFaults.{opening_faults, block_faults}

-- A file whose length is right has its block 0.
pub has_header : {f : List ℕ} → ((length f ≡ 0) ⊎ ((0 < length f % block_bytes) ⊎ (file_limit < length f)) → ⊥) → Within f 0
has_header {f} d = record { fits = at_least (λ z. d (inl z)) (λ l. d (inr (inl l))) }
  where
    at_least : (length f ≡ 0 → ⊥) → (0 < length f % block_bytes → ⊥) → block_bytes * 0 + block_bytes ≤ length f
    at_least none rest = omega arith

pub opened_header : {f : List ℕ} → AllClear (opening_faults f) → Within f 0
unfolding AllClear
opened_header c = has_header (c.0.none 0 (omega arith))

-- The rows of the blocks, and then those of the survey, are the rows of a file.
pub file_parts : (f : List ℕ) → block_faults f ++ survey_faults (survey_in f) ≡ file_faults f
file_parts f = refl
