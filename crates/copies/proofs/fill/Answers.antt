use Rattle.copies.proofs.CopyLaws.{copied, filled_none, filled_more}
use Rattle.words.proofs.WordLaws.{bytes_of_lem}
use mathlib.Core.Path.{◌≡◌}
use native.Mathlib.Omega.{arith}
use Rattle.copies.proofs.fill.Goals as goal

pub loop-k-init : goal.loop-k-init
loop-k-init c = filled_none

pub pair-requires : goal.pair-requires
pair-requires c = c.requires.within _ c.loop-k-test.true

pub put_pair-requires : goal.put_pair-requires
put_pair-requires c = omega (arith, c.requires.room, c.loop-k.invariant.long, c.loop-k-test.true)

pub loop-k-preserved : goal.loop-k-preserved
loop-k-preserved c =
    let filled = c.loop-k.invariant in
    let taken = c.loop-k-test.true in
    let room = c.requires.room in
    let small = c.type_inv.file in
    let read = c.pair.ensures in
    filled_more filled (copied (bytes_of_lem _ small) (omega (arith, room, filled.long, taken)) read c.put_pair.ensures)

pub shape_of-list : goal.shape_of-list
shape_of-list c = c.loop-k.invariant.long

pub returns : goal.returns
returns c =
    let done : c.loop-k.k ≡ c.args.count = omega (arith, c.loop-k-test.false, c.loop-k.auto.k-end) in
    rw done at c.loop-k.invariant
