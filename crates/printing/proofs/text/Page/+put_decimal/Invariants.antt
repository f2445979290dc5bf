-- `text::Page::put_decimal` meets its contract. The measure is the number, which falls to its tenth. Assumes nothing.
use Rattle.printing.proofs.text.Page.+put_decimal.Given as goal

abbrev pub decreases-put_decimal : goal.decreases-put_decimal
decreases-put_decimal l = l.x
