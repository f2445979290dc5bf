-- `text::Page::put_numbers` meets its contract. The invariant: the numbers below g are put, at most 4 bytes for each. Assumes nothing.
use Prim.Native.Nat.{◌*◌}
use Rattle.survey.specs.Words.{marked_set}
use Rattle.printing.specs.Pages.{PutsWithin}
use Rattle.printing.specs.Printing.{number_lines}
use Rattle.printing.proofs.text.Page.put_numbers.Given as goal

abbrev pub invariant-loop-g : goal.invariant-loop-g
invariant-loop-g l = PutsWithin (4 * l.g) l.initial.self (number_lines l.g (marked_set l.marks)) l.self
