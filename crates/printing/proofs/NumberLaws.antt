-- The numbers of the marked groups, one a line, and how many there are.
use Prim.Native.Nat.{ℕ, zero, suc, ◌+◌, ◌*◌, ◌≤◌, ◌<◌}
use native.Mathlib.Numerals.{add-one}
use native.Mathlib.Omega.{arith}
use mathlib.Core.Path.{◌≡◌, refl}
use mathlib.Core.Bool.{Bool, true, false, cond}
use mathlib.Core.List.{List, [], ◌++◌}
use lib.Dec.{eqb}
use lib.ListN.{length, get_or, take, length-append}
use borrow.Author.Tests.{eq-eqb, ne_eqb}
use Rattle.std.specs.List.{count_by}
use Rattle.std.proofs.lemmas.List.Sums.{count_by_more_yes, count_by_more_no}
use Rattle.survey.specs.Sets.{Set, sum, only}
use Rattle.survey.specs.Words.{marked_set}
use Rattle.printing.specs.Texts.{line_feed, decimal}
use Rattle.printing.specs.Printing.{number_line, number_lines}
use Rattle.printing.specs.declared.text.Page.{Page}
use Rattle.printing.specs.Pages.{Puts, PutsWithin}
use Rattle.printing.proofs.DecimalLaws.{decimal_of_three}
use Rattle.printing.proofs.PutLaws.{puts_none, puts_then}

-- ---- one number

module _ (marks : List ℕ) (g : ℕ) where
  pub number_marked : get_or marks g 0 ≡ 1 → decimal g ++ line_feed ≡ number_line (marked_set marks) g
  number_marked h = rw (eq-eqb (get_or marks g 0) 1 h)

  pub number_unmarked : (get_or marks g 0 ≡ 1 → ⊥) → [] ≡ number_line (marked_set marks) g
  number_unmarked d = rw (ne_eqb (get_or marks g 0) 1 d)

number_short : (P : Set) (g : ℕ) → g < 1_000 → length (number_line P g) ≤ 4
number_short P g h = at (P g)
  where
    at : (t : Bool) → length (cond t (decimal g ++ line_feed) []) ≤ 4
    at true = omega (arith, length-append (decimal g) line_feed, decimal_of_three g h)
    at false = omega arith

-- ---- all of them

pub numbers_none : (page : Page) (P : Set) → page.at ≤ length page.out.now → PutsWithin (4 * 0) page (number_lines 0 P) page
unfolding number_lines
numbers_none page P h = record { puts = puts_none page h; short = omega arith }

numbers_more : (g : ℕ) (P : Set) → number_lines g P ++ number_line P g ≡ number_lines (g + 1) P
unfolding number_lines
numbers_more g P = rw add-one

pub numbers_step :
    {before mid after : Page} (P : Set) (g : ℕ) → g < 1_000 → PutsWithin (4 * g) before (number_lines g P) mid → Puts mid (number_line P g) after
    → PutsWithin (4 * (g + 1)) before (number_lines (g + 1) P) after
numbers_step P g h p q =
    record {
      puts = rw (numbers_more g P) at (puts_then p.puts q);
      short = omega (arith, p.short, q.end, number_short P g h);
    }

-- ---- how many there are

-- what each group brings to the count
abbrev pub ones : List ℕ → ℕ → ℕ
ones marks g = only (marked_set marks g) 1

-- how many of the first n marks are 1
abbrev pub counted : List ℕ → ℕ → ℕ
counted marks n = count_by (λ m. eqb m 1) (take n marks)

one_more : (marks : List ℕ) (g : ℕ) → g < length marks → (t : Bool) → eqb (get_or marks g 0) 1 ≡ t → counted marks (suc g) ≡ counted marks g + only t 1
one_more marks g h true e = rw (add-one g) at (count_by_more_yes (λ m. eqb m 1) marks g 0 h e)
one_more marks g h false e = omega (arith, rw (add-one g) at (count_by_more_no (λ m. eqb m 1) marks g 0 h e))

pub ones_counted : (marks : List ℕ) (n : ℕ) → n ≤ length marks → counted marks n ≡ sum n (ones marks)
unfolding sum
ones_counted marks zero h = refl
ones_counted marks (suc g) h = omega (arith, one_more marks g (omega arith) (eqb (get_or marks g 0) 1) refl, ones_counted marks g (omega arith))
