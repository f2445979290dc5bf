-- Specification 14.4: of F2's three blocks the definition gives these four lines.
use mathlib.Core.Path.{◌≡◌, refl, sym, ap, subst, ◌∙◌}
use mathlib.Core.List.{List, [], ◌∷◌, ◌++◌}
use Prim.Native.Nat.{ℕ}
use Rattle.survey.specs.Survey.{Survey}
use Rattle.survey.specs.Sets.{sum, total}
use Rattle.survey.specs.Pick.{IsPick}
use Rattle.survey.specs.Rounds.{RoundsOf}
use Rattle.survey.specs.Drawings.{f2, set_of}
use Rattle.printing.specs.Texts.{tenths, decimal}
use Rattle.drawn.proofs.Benched.{f2_pick, f2_rounds}
use Rattle.drawn.proofs.Files.{f2_file, f2_file_lem, f2_file_admitted}
use Rattle.printing.specs.Printing.{number_lines, pick_text, Prints, picked}
use Rattle.printing.proofs.PrintsOne.{prints_one}

-- `survey 5 4`
abbrev first : List ℕ
first = 115 ∷ 117 ∷ 114 ∷ 118 ∷ 101 ∷ 121 ∷ 32 ∷ 53 ∷ 32 ∷ 52 ∷ 10 ∷ []

-- `chosen 2 dead 14 live 6 rounds 4`
abbrev second : List ℕ
second = 99 ∷ 104 ∷ 111 ∷ 115 ∷ 101 ∷ 110 ∷ 32 ∷ 50 ∷ 32 ∷ 100 ∷ 101 ∷ 97 ∷ 100 ∷ 32 ∷ 49 ∷ 52 ∷ 32 ∷ 108 ∷ 105 ∷ 118 ∷ 101 ∷ 32 ∷ 54 ∷ 32 ∷ 114 ∷ 111 ∷ 117 ∷ 110 ∷ 100 ∷ 115 ∷
    32 ∷ 52 ∷ 10 ∷ []

-- `1`
abbrev third : List ℕ
third = 49 ∷ 10 ∷ []

-- `4`
abbrev fourth : List ℕ
fourth = 52 ∷ 10 ∷ []

abbrev pub f2_lines : List ℕ
f2_lines = first ++ second ++ third ++ fourth

-- F2's pick is {1, 4}, after 4 rounds (`drawings` of the survey's definitions).
f2_text : pick_text f2 (set_of (1 ∷ 4 ∷ [])) 4 ≡ f2_lines
unfolding tenths decimal number_lines total sum
f2_text = refl

f2_prints : Prints f2_file f2_lines
f2_prints =
    subst (λ (text : List ℕ). Prints f2_file text) (ap (λ (s : Survey). pick_text s (set_of (1 ∷ 4 ∷ [])) 4) f2_file_lem ∙ f2_text)
    (picked f2_file_admitted
    (subst (λ (s : Survey). IsPick s (set_of (1 ∷ 4 ∷ []))) (sym f2_file_lem) f2_pick)
    (subst (λ (s : Survey). RoundsOf s 4 (set_of (1 ∷ 4 ∷ []))) (sym f2_file_lem) f2_rounds))

-- Of the bytes of F2's file these four lines are printed, and nothing else.
pub f2_file_prints : Prints f2_file f2_lines × ((text : List ℕ) → Prints f2_file text → text ≡ f2_lines)
f2_file_prints = (f2_prints, λ text x. prints_one x f2_prints)
