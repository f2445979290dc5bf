-- `flow::ways::find_way` meets its contract: one constructor for each way through, by the tests and what the calls promise. Assumes nothing.
use native.Mathlib.Omega.{arith}
use Rattle.flow.specs.Ways.{both_ways, one_way}
use Rattle.flow.proofs.ways.find_way.Goals as goal

pub returns-then-amount-eq0 : goal.returns-then-amount-eq0
returns-then-amount-eq0 c = rw c.put.ensures (one_way c.if-amount-eq0.true)

pub returns : goal.returns
returns c = rw (c.put-2.ensures, c.put.ensures) (both_ways (omega (arith, c.if-amount-eq0.false)))
