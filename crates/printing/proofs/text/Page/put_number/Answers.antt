-- `text::Page::put_number` meets its contract. A group is marked, or it is not. Assumes nothing.
use native.Mathlib.Omega.{arith}
use Rattle.printing.proofs.NumberLaws.{number_marked, number_unmarked}
use Rattle.printing.proofs.DecimalLaws.{decimal_short}
use Rattle.printing.proofs.PutLaws.{puts_none, puts_then}
use Rattle.printing.proofs.text.Page.put_number.Goals as goal

pub put_byte-requires : goal.put_byte-requires
put_byte-requires c = omega (arith, decimal_short c.args.g c.ranges.g.fits)

pub returns-then-marks-g-eq-PICKED : goal.returns-then-marks-g-eq-PICKED
returns-then-marks-g-eq-PICKED c = rw (number_marked c.args.marks.now c.args.g c.if-marks-g-eq-PICKED.true) at (puts_then c.put_decimal.ensures c.put_byte.ensures)

pub returns-else-marks-g-eq-PICKED : goal.returns-else-marks-g-eq-PICKED
returns-else-marks-g-eq-PICKED c = rw (number_unmarked c.args.marks.now c.args.g c.if-marks-g-eq-PICKED.false) at (puts_none c.args.self.now (omega arith))
