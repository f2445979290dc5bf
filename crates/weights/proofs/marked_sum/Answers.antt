use Rattle.weights.proofs.MarkedLaws.{brought_small}
use Rattle.survey.specs.Limits.{count_limit}
use Prim.Native.Nat.{◌≤◌}
use native.Mathlib.Omega.{arith}
use Rattle.weights.proofs.marked_sum.Goals as goal

-- The sum so far is small, and so is what one group brings.
pub plus-sum-requires : goal.plus-sum-requires
plus-sum-requires g c =
    let count = g.C.Count in
    let small = g.met.C.Count.small in
    let so_far = brought_small c.requires.some c.args.marks.now count.held small c.loop-g.g c.loop-g.auto.g-end in
    let fit = c.requires.some.counts c.loop-g.g (omega arith) in
    let one : count.number c.of.result ≤ count_limit = grind (arith, small) in
    omega (arith, c.loop-g.invariant, so_far, one)
