use Rattle.cycles.proofs.PeelEnd.{walk_start, walk_counts, walk_top, walk_next, walk_end}
use Rattle.cycles.proofs.ListLaws.{ends_inside}
use Rattle.cycles.specs.Tallies.{first_of}
use mathlib.Core.Path.{sym, ◌∙◌}
use native.Mathlib.Omega.{arith}
use Rattle.cycles.proofs.peeling.walk.Goals as goal

pub loop-k-init : goal.loop-k-init
unfolding first_of
loop-k-init c = walk_start c.requires.1

pub returns-then-link-g : goal.returns-then-link-g
returns-then-link-g c = walk_end c.loop-k.invariant (λ l e. c.if-link-g.true (c.link-link.ensures.from ∙ e))

pub lower-now_top-requires : goal.lower-now_top-requires
lower-now_top-requires c =
    let hold = c.args.links.hold in
    let turn = c.loop-k in
    let link = c.link-link.ensures in
    let below = (ends_inside hold).to turn.k c.loop-k-test.true in (
      omega (arith, link.to, below, hold.groups),
      omega (arith, walk_top turn.invariant c.requires.1, hold.groups),
      rw link.to (walk_counts turn.invariant c.requires.1 c.loop-k-test.true below (sym link.from ∙ c.if-link-g.false)),
    )

pub loop-k-preserved : goal.loop-k-preserved
loop-k-preserved c =
    let link = c.link-link.ensures in
    let lower = c.lower-now_top.ensures in
    let below = (ends_inside c.args.links.hold).to c.loop-k.k c.loop-k-test.true in
    walk_next c.loop-k.invariant c.loop-k-test.true below (sym link.from ∙ c.if-link-g.false) (rw link.to at lower.0) lower.1

pub returns : goal.returns
returns c = walk_end c.loop-k.invariant (λ l e. omega arith)
