-- The drawings that useless programs are tried on, and what the definitions say of them.
use mathlib.Core.Path.{◌≡◌, refl}
use mathlib.Core.Bool.{true, ◌&&◌}
use Prim.Native.Nat.{ℕ}
use mathlib.Core.List.{List, [], ◌∷◌, ◌++◌}
use Rattle.survey.specs.Survey.{Survey, Group, Link}
use Rattle.survey.specs.Sets.{Set, all_groups, sum, total}
use Rattle.survey.specs.Pick.{IsPick}
use Rattle.survey.specs.Rounds.{RoundsOf, Heaviest, weights}
use Rattle.survey.specs.Faults.{Admitted}
use Rattle.survey.specs.Drawings.{counts, link, drawn, set_of, admits, f2, f7}
use Rattle.survey.proofs.Reaching.{somewhere, any_link, via, has_cycle}
use Rattle.survey.proofs.Deciding.{both, all_below}
use Rattle.survey.proofs.AllSets.{find_from, find_set, any_set, every_set}
use Rattle.survey.proofs.SetTests.{inside_test, inside_told, contains_test, closed_test, eligible_test, greatest_test, heaviest_test, heaviest_told}
use Rattle.survey.proofs.ComputedVerdicts.{lowest_below, told_verdict, verdict_test}
use Rattle.survey.proofs.ClaimTests.{survey_tests}
use Rattle.survey.proofs.Drawings.{says_test, right, right_holds, drawings_hold}
use Rattle.drawn.proofs.Calls.{group_bytes, link_bytes, Lends, zeros, some_call}

-- ---- F2 and F7, each with calls that lend it

-- F2 (Specification 15.1)
abbrev pub f2_groups : List Group
f2_groups = counts 2 2 ∷ counts 4 3 ∷ counts 1 12 ∷ counts 6 3 ∷ counts 10 3 ∷ []

abbrev pub f2_links : List Link
f2_links = link 0 2 ∷ link 1 2 ∷ link 1 3 ∷ link 1 4 ∷ []

pub f2_lent : (marks amounts : List ℕ) → Lends f2 (group_bytes f2_groups ++ zeros 1_024) (link_bytes f2_links ++ zeros 8_192) (marks ++ zeros 128) (amounts ++ zeros 8_192)
f2_lent = some_call f2_groups f2_links

-- F7 (Specification 15.1)
abbrev pub f7_groups : List Group
f7_groups = counts 2 1 ∷ counts 0 2 ∷ counts 3 0 ∷ counts 3 0 ∷ []

abbrev pub f7_links : List Link
f7_links = link 0 1 ∷ link 1 2 ∷ link 1 3 ∷ []

pub f7_lent : (marks amounts : List ℕ) → Lends f7 (group_bytes f7_groups ++ zeros 1_024) (link_bytes f7_links ++ zeros 8_192) (marks ++ zeros 128) (amounts ++ zeros 8_192)
f7_lent = some_call f7_groups f7_links

pub f2_admitted : Admitted f2
unfolding right says_test inside_test all_below lowest_below told_verdict verdict_test survey_tests somewhere any_link via has_cycle
f2_admitted = right_holds (admits f2) refl

pub f7_admitted : Admitted f7
unfolding right says_test inside_test all_below lowest_below told_verdict verdict_test survey_tests somewhere any_link via has_cycle
f7_admitted = right_holds (admits f7) refl

-- a drawing for averages: 1:2, 2:3, 4:5; links (0,1) (0,2)
abbrev pub uneven : Survey
uneven = drawn (counts 1 2 ∷ counts 2 3 ∷ counts 4 5 ∷ []) (link 0 1 ∷ link 0 2 ∷ [])

pub uneven_admitted : Admitted uneven
unfolding right says_test inside_test all_below lowest_below told_verdict verdict_test survey_tests somewhere any_link via has_cycle
uneven_admitted = right_holds (admits uneven) refl

-- F2: its pick is {1,4}.
pub f2_pick : IsPick f2 (set_of (1 ∷ 4 ∷ []))
f2_pick = drawings_hold.0

-- F2: 4 rounds.
pub f2_rounds : RoundsOf f2 4 (set_of (1 ∷ 4 ∷ []))
f2_rounds = drawings_hold.1.1.0

-- F7: its pick is all groups.
pub f7_pick : IsPick f7 (set_of (0 ∷ 1 ∷ 2 ∷ 3 ∷ []))
f7_pick = drawings_hold.1.1.1.1.1.1.0

-- F7: one round.
pub f7_rounds : RoundsOf f7 1 (set_of (0 ∷ 1 ∷ 2 ∷ 3 ∷ []))
f7_rounds = drawings_hold.1.1.1.1.1.1.1.1.0

-- F2's first round comes to {0,1,3,4}.
heaviest_holds : (s : Survey) (C S : Set) → inside_test s && heaviest_test s (weights s C) S ≡ true → Heaviest s (weights s C) S
heaviest_holds s C S h = ((both (inside_told s) (λ i. heaviest_told i (weights s C) S)).so h).1

pub f2_first_round : Heaviest f2 (weights f2 all_groups) (set_of (0 ∷ 1 ∷ 3 ∷ 4 ∷ []))
unfolding inside_test contains_test closed_test eligible_test greatest_test heaviest_test sum total all_below find_from find_set any_set every_set
f2_first_round = heaviest_holds f2 all_groups (set_of (0 ∷ 1 ∷ 3 ∷ 4 ∷ [])) refl
