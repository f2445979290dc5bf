-- The lists that a call of the reader lends.
use Rattle.std.specs.Prelude.{ℕ, List, [], ◌∷◌}
use Rattle.survey.specs.Words.{entries}
use Rattle.survey.specs.Faults.{group_list, link_list, OneShort}

-- a list has room for fewer groups or links than a survey can have
abbrev pub ListsShort : List ℕ → List ℕ → Type 0
ListsShort groups links = OneShort (group_list (entries groups) ∷ link_list (entries links) ∷ [])
