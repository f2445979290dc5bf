use Prim.Native.Nat.{◌-◌}
use Rattle.cycles.proofs.ListLaws.{ends_inside}
use Rattle.cycles.proofs.Into.{tally_small, tally_none, tally_next, tally_at}
use native.Mathlib.Omega.{arith}
use Rattle.cycles.proofs.peeling.tally.Goals as goal

pub loop-k-init : goal.loop-k-init
loop-k-init c = tally_none c.requires

pub note-requires : goal.note-requires
note-requires c =
    let hold = c.args.links.hold in
    let k = c.loop-k.k - 1 in
    let link = c.link-link in (
      omega (arith, link.ensures.from, (ends_inside hold).from k (omega (arith, c.loop-k.auto.k)), hold.groups),
      omega (arith, link.ensures.to, (ends_inside hold).to k (omega (arith, c.loop-k.auto.k)), hold.groups),
      omega (arith, c.loop-k.auto.k, hold.links),
      tally_small hold.links c.loop-k.invariant link.result.to,
    )

pub loop-k-preserved : goal.loop-k-preserved
loop-k-preserved c =
    let link = c.link-link.ensures in
    tally_next (c.loop-k.k - 1) (omega (arith, c.loop-k.auto.k)) (omega arith) c.args.links.hold.order c.loop-k.invariant (rw (link.from, link.to) at c.note.ensures)

pub returns : goal.returns
returns c = tally_at (omega arith) c.loop-k.invariant
