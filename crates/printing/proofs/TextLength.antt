-- The text of a pick has at most 470 bytes: 16 and 52 for the two lines, and 402 for the numbers of 128 groups. So a list of 1,024 has room for it.
use Prim.Native.Nat.{ℕ, zero, suc, ◌+◌, ◌≤◌, ◌<◌}
use native.Mathlib.Nat.{le_refl}
use native.Mathlib.Omega.{arith}
use mathlib.Core.Path.{◌≡◌, refl}
use mathlib.Core.Bool.{Bool, true, false, cond}
use mathlib.Core.List.{List, [], ◌++◌}
use lib.ListN.{length, length-append}
use lib.Dec.{ltb}
use borrow.Author.Tests.{ltb-true, ltb-false}
use Rattle.survey.specs.Limits.{group_limit, link_limit, sum_limit}
use Rattle.survey.specs.Survey.{Survey}
use Rattle.survey.specs.Sets.{Set, D, L}
use Rattle.survey.specs.Rounds.{RoundsOf}
use Rattle.survey.specs.Sound.{Sound}
use Rattle.survey.proofs.Admitted.{dead_small, cost_small}
use Rattle.survey.proofs.RoundCount.{rounds_few, size_few}
use Rattle.printing.specs.Texts.{line_feed, space, survey_word, chosen_word, dead_word, live_word, rounds_word, decimal, named}
use Rattle.printing.specs.Printing.{survey_line, chosen_line, size, number_line, number_lines, pick_text}
use Rattle.printing.proofs.DecimalLaws.{decimal_width}

-- ---- the numbers: 1, 2 or 3 digits and a line feed

line_bytes : ℕ → ℕ
line_bytes g = cond (ltb g 10) 2 (cond (ltb g 100) 3 4)

bytes : ℕ → ℕ
bytes zero = 0
bytes (suc g) = bytes g + line_bytes g

-- more groups have no fewer bytes
more_bytes : (n m : ℕ) → n ≤ m → bytes n ≤ bytes m
unfolding bytes
more_bytes n zero h = rw (none n (omega arith)) (omega arith)
  where
    none : (n : ℕ) → n ≤ 0 → bytes n ≡ bytes 0
    none zero h = refl
    none (suc n) h = absurd (omega arith)
more_bytes n (suc m) h = at (ltb n (suc m)) refl (λ l. more_bytes n m l)
  where
    at : (t : Bool) → ltb n (suc m) ≡ t → (n ≤ m → bytes n ≤ bytes m) → bytes n ≤ bytes (suc m)
    at true e go = omega (arith, go (omega (arith, ltb-true n (suc m) e)))
    at false e go = let same : n ≡ suc m = omega (arith, ltb-false n (suc m) e) in rw same (le_refl (bytes (suc m)))

line_short : (P : Set) (g : ℕ) → g < 1_000 → length (number_line P g) ≤ line_bytes g
unfolding line_bytes
line_short P g h = at (P g) (ltb g 10) refl (ltb g 100) refl
  where
    feed : (w : ℕ) → length (decimal g) ≤ w → length (decimal g ++ line_feed) ≤ w + 1
    feed w b = omega (arith, length-append (decimal g) line_feed)

    at : (t u : Bool) → ltb g 10 ≡ u → (v : Bool) → ltb g 100 ≡ v → length (cond t (decimal g ++ line_feed) []) ≤ cond u 2 (cond v 3 4)
    at false u e v d = omega arith
    at true true e v d = feed 1 (decimal_width 0 g (omega (arith, ltb-true g 10 e)))
    at true false e true d = feed 2 (decimal_width 1 g (omega (arith, ltb-true g 100 d)))
    at true false e false d = feed 3 (decimal_width 2 g (omega arith))

numbers_short : (n : ℕ) (P : Set) → n ≤ group_limit → length (number_lines n P) ≤ bytes n
unfolding number_lines bytes
numbers_short zero P h = omega arith
numbers_short (suc g) P h = omega (arith, numbers_short g P (omega arith), length-append (number_lines g P) (number_line P g), line_short P g (omega arith))

all_numbers : bytes group_limit ≡ 402
unfolding bytes line_bytes
all_numbers = refl

-- ---- the lines

named_width : (word : List ℕ) (width x : ℕ) → length (decimal x) ≤ width → length (named word x) ≤ length word + width
named_width word width x h = omega (arith, length-append word (decimal x))

survey_short : (n e : ℕ) → n ≤ group_limit → e ≤ link_limit → length (survey_line n e) ≤ 16
survey_short n e a b =
    omega (
      arith,
      length-append (named survey_word n ++ named space e) line_feed,
      length-append (named survey_word n) (named space e),
      named_width survey_word 3 n (decimal_width 2 n (omega arith)),
      named_width space 4 e (decimal_width 3 e (omega arith)),
    )

chosen_short : (k d l r : ℕ) → k ≤ group_limit → d ≤ sum_limit → l ≤ sum_limit → r ≤ group_limit → length (chosen_line k d l r) ≤ 52
chosen_short k d l r a b c f =
    omega (
      arith,
      length-append (named chosen_word k ++ named dead_word d ++ named live_word l ++ named rounds_word r) line_feed,
      length-append (named chosen_word k ++ named dead_word d ++ named live_word l) (named rounds_word r),
      length-append (named chosen_word k ++ named dead_word d) (named live_word l),
      length-append (named chosen_word k) (named dead_word d),
      named_width chosen_word 3 k (decimal_width 2 k (omega arith)),
      named_width dead_word 9 d (decimal_width 8 d (omega arith)),
      named_width live_word 9 l (decimal_width 8 l (omega arith)),
      named_width rounds_word 3 r (decimal_width 2 r (omega arith)),
    )

pub pick_short : {s : Survey} {P : Set} {rounds : ℕ} → Sound s → RoundsOf s rounds P → length (pick_text s P rounds) ≤ 470
pick_short {s} {P} {rounds} x c =
    omega (
      arith,
      length-append (survey_line s.n s.e ++ chosen_line (size s P) (D s P) (L s P) rounds) (number_lines s.n P),
      length-append (survey_line s.n s.e) (chosen_line (size s P) (D s P) (L s P) rounds),
      survey_short s.n s.e x.groups x.links,
      chosen_short (size s P) (D s P) (L s P) rounds (omega (arith, size_few s P, x.groups)) (dead_small x P) (cost_small x P) (omega (arith, rounds_few x.some_dead c, x.groups)),
      numbers_short s.n P x.groups,
      more_bytes s.n group_limit x.groups,
      all_numbers,
    )
