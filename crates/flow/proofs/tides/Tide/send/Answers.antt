-- `flow::tides::Tide::send` meets its contract: as `shift` moves what is taken, with what was read. Assumes nothing.
use mathlib.Core.Path.{sym, ◌∙◌}
use Rattle.flow.specs.Sends.{paid, gave}
use Rattle.flow.proofs.tides.Tide.send.Goals as goal

pub returns-then-q-g-clause-sends : goal.returns-then-q-g-clause-sends
returns-then-q-g-clause-sends c = paid (sym c.end_in-q.ensures ∙ c.if-q-g.true) _ (rw c.end_in-p.ensures at c.takes-d.ensures) (rw c.end_in-p.ensures at c.shift.ensures.moves)

pub returns-clause-sends : goal.returns-clause-sends
returns-clause-sends c = gave (λ z. c.if-q-g.false (c.end_in-q.ensures ∙ z)) _ (rw (c.min-most.ensures, c.end_in-q.ensures) at c.takes-d-2.ensures)
    (rw c.end_in-q.ensures at c.shift-2.ensures.moves)
