-- The rows 2 to 7 of the table (Specification 11), which are about the blocks of a file. The survey's own rows come after them.
use Rattle.std.specs.Prelude.{ℕ, List, [], ◌∷◌}
use Rattle.survey.specs.SurveyFile.{n_in, e_in}
use Rattle.survey.specs.Refusals.{Fault}
use Rattle.survey.specs.Faults.{bad_length, bad_check, bad_header, bad_range, bad_block_count, bad_kind, bad_unused}

-- 2 to 4: before n and e are read
abbrev pub opening_faults : List ℕ → List Fault
opening_faults f = bad_length f ∷ bad_check f ∷ bad_header f ∷ []

-- 5 to 7: whether the blocks are those of n groups and e links
abbrev pub layout_faults : List ℕ → List Fault
layout_faults f = bad_range (n_in f) (e_in f) ∷ bad_block_count f ∷ bad_kind f ∷ bad_unused f ∷ []

-- 2 to 7
abbrev pub block_faults : List ℕ → List Fault
block_faults f = bad_length f ∷ bad_check f ∷ bad_header f ∷ bad_range (n_in f) (e_in f) ∷ bad_block_count f ∷ bad_kind f ∷ bad_unused f ∷ []
