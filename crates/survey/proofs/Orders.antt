-- Each part looks for its faults in the one order, which ascends: so it gives the lowest number.
use mathlib.Core.Path.{◌≡◌, refl}
use mathlib.Core.Bool.{true}
use mathlib.Core.List.{List, [], ◌∷◌, map}
use Prim.Native.Nat.{ℕ}
use Rattle.survey.specs.Refusals.{place_of, looking_order, InOrder, none, here, later}
use Rattle.survey.specs.Faults.{reader_faults, chooser_faults, checker_faults}
use Rattle.survey.specs.Answers.{sort_number}
use Rattle.survey.proofs.Verdicts.{ascending}

pub looking_ascends : ascending looking_order ≡ true
looking_ascends = refl

pub reader_order : (f groups links : List ℕ) → InOrder looking_order (reader_faults f groups links)
reader_order f groups links =
    here refl (later (here refl (later (here refl (later (here refl (later (here refl (later
    (here refl (here refl (later (here refl (later (here refl (later (here refl (later (here refl (later (here refl (later (here refl none)))))))))))))))))))))))

pub chooser_order : (n e : ℕ) (groups links marks amounts : List ℕ) → InOrder looking_order (chooser_faults n e groups links marks amounts)
chooser_order n e groups links marks amounts =
    here refl (later (later (later (later (here refl (later (later (later (here refl (later (here refl (later (here refl (later (here refl (later (here refl none)))))))))))))))))

pub checker_order : (n e : ℕ) (groups links marks amounts : List ℕ) → InOrder looking_order (checker_faults n e groups links marks amounts)
checker_order n e groups links marks amounts =
    here refl (later (later (later (later (here refl (later (later (later (here refl (later (here refl
    (later (here refl (later (here refl (later (here refl (later (here refl (later (here refl
    (later (here refl (later (here refl (later (here refl (later (here refl none)))))))))))))))))))))))))))))

-- The sort of place of each number, as the table of Specification 11.1 has it: 0 nothing, 1 block, 2 group, 3 link. (6 has a row of place nothing
-- besides.)
pub places_as_in_table : map (λ (m : ℕ). sort_number (place_of m 0)) looking_order ≡ 0 ∷ 0 ∷ 1 ∷ 1 ∷ 0 ∷ 1 ∷ 1 ∷ 2 ∷ 3 ∷ 3 ∷ 0 ∷ 0 ∷ 2 ∷ 3 ∷ 3 ∷ 0 ∷ 2 ∷ 2 ∷ []
places_as_in_table = refl
