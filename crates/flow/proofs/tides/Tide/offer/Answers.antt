-- `flow::tides::Tide::offer` meets its contract. Assumes nothing.
use native.Mathlib.Omega.{arith}
use Rattle.flow.specs.Waves.{kept, took}
use Rattle.flow.proofs.tides.Tide.offer.Goals as goal

pub returns-then-self-k-clause-offered : goal.returns-then-self-k-clause-offered
returns-then-self-k-clause-offered c = kept (λ m least. omega (arith, c.if-self-k.true))

pub returns-then-t-q-ne1-clause-offered : goal.returns-then-t-q-ne1-clause-offered
returns-then-t-q-ne1-clause-offered c = kept (λ m least. c.if-t-q-ne1.true m)

pub returns-clause-offered : goal.returns-clause-offered
returns-clause-offered c = took c.if-t-q-ne1.false (omega (arith, c.if-self-k.false)) c.send.ensures.sends
    (rw (c.end_in-from.ensures, c.end_in-to.ensures, c.send.ensures.ways) at c.note.ensures)
