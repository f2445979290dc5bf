-- The rows that speak of links alone.
use Rattle.std.specs.Prelude.{List, [], ◌∷◌}
use Rattle.survey.specs.Survey.{Survey}
use Rattle.survey.specs.Refusals.{Fault}
use Rattle.survey.specs.Faults.{bad_end, bad_order, any_cycle}

-- 9 to 11: what a survey is refused for by its links alone
abbrev pub link_faults : Survey → List Fault
link_faults s = bad_end s ∷ bad_order s ∷ any_cycle s ∷ []
