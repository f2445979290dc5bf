-- `reader::read` meets its contract. The lists are looked at, then the file, and only then filled. Assumes nothing.
use Rattle.std.proofs.lemmas.Result.{err_from_is_err_and}
use Rattle.reader.proofs.Readings.{blocks_clear, group_room, link_room, lists_refused, file_refused, file_read}
use Rattle.reader.proofs.FileLaws.{header_within, groups_fillable, links_fillable}
use native.Mathlib.Omega.{arith}
use Rattle.reader.proofs.read.Goals as goal

pub returns-then-lists_short : goal.returns-then-lists_short
returns-then-lists_short c =
    let a = c.args in
    lists_refused a.file.now a.groups.now a.links.now c.if-lists_short.ensures c.refused_whole.ensures

pub returns-in_err-faults_in : goal.returns-in_err-faults_in
returns-in_err-faults_in c =
    let a = c.args in
    let p = err_from_is_err_and c.from_residual.result c.from_residual.ensures.1 in
    rw (p.1, p.2) (file_refused a.file.now a.groups.now a.links.now c.if-lists_short.ensures c.in_err-faults_in.ensures)

pub size_in-size-requires : goal.size_in-size-requires
size_in-size-requires c = header_within c.args.file.now (blocks_clear c.args.file.now c.in_ok-faults_in.ensures)

pub fill-requires : goal.fill-requires
fill-requires c =
    let a = c.args in
    let n = c.size_in-size.ensures.groups.0 in
    let e = c.size_in-size.ensures.links.0 in
    let room = group_room a.groups.now a.links.now c.if-lists_short.ensures in
    groups_fillable a.file.now (blocks_clear c.args.file.now c.in_ok-faults_in.ensures) n e c.first_link_block-link_block.ensures (omega arith) room

pub fill-requires-2 : goal.fill-requires-2
fill-requires-2 c =
    let a = c.args in
    let n = c.size_in-size.ensures.groups.0 in
    let e = c.size_in-size.ensures.links.0 in
    let room = link_room a.groups.now a.links.now c.if-lists_short.ensures in
    links_fillable a.file.now (blocks_clear c.args.file.now c.in_ok-faults_in.ensures) n e c.first_link_block-link_block.ensures (omega arith) room

pub returns : goal.returns
returns c =
    let a = c.args in
    let n = c.size_in-size.ensures.groups.0 in
    let e = c.size_in-size.ensures.links.0 in
    let fine-file = c.in_ok-faults_in.ensures in
    file_read a.file.now a.groups.now a.links.now c.if-lists_short.ensures fine-file n e
    c.first_link_block-link_block.ensures
    c.fill.ensures
    c.fill-2.ensures
