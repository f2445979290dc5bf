-- `flow::ways::note` meets its contract: one constructor for each way through, by the tests and what the calls promise. Assumes nothing.
use native.Mathlib.Omega.{arith}
use Rattle.flow.specs.Ways.{stands, fails}
use Rattle.flow.proofs.ways.note.Goals as goal

pub returns-then-amount-eq0 : goal.returns-then-amount-eq0
returns-then-amount-eq0 c = rw c.cut.ensures (fails c.if-amount-eq0.true)

pub returns : goal.returns
returns c = rw c.put.ensures (stands (omega (arith, c.if-amount-eq0.false)))
