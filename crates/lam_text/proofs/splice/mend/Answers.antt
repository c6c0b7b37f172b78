use Rattle.std.proofs.Common.{◌<◌, ◌^◌, length, arith}
use Rattle.std.proofs.lemmas.Result.{on_ok_weaker}
use Rattle.lam_text.proofs.Splices.{moved-bounds, index_before-bounds, mended-steps}
use Rattle.lam_text.proofs.splice.mend.Goals as goal

pub overflow_add-next : goal.overflow_add-next
overflow_add-next c = omega (arith, (index_before-bounds _ _ _ _ c.requires).1, c.args.marks.now.ok.0, c.args.marks.now.small)

pub move_marks-requires-clause-within : goal.move_marks-requires-clause-within
move_marks-requires-clause-within c = (index_before-bounds _ _ _ _ c.requires).1

pub move_marks-requires-clause-fits : goal.move_marks-requires-clause-fits
move_marks-requires-clause-fits c =
    let fits : length c.args.new.now < 2 ^ 64 = omega arith in
    let splice = c.args.splice in
    let before = c.requires in
    rw before.index
    (moved-bounds before.old c.args.new.now splice.start splice.end splice.inserted c.args.seam.last (2 ^ 64) before.is_splice before.is_seam.last fits)

pub put-requires-clause-ordered : goal.put-requires-clause-ordered
put-requires-clause-ordered c = omega (arith, (index_before-bounds _ _ _ _ c.requires).0)

pub returns : goal.returns
returns c =
    on_ok_weaker c.put.result
    (mended-steps _ c.move_marks.new.marks.items c.new-found.result.items c.push_marks.new.marks.items c.push.new.self.items c.put.new.marks.items
    c.args.new.now c.args.splice c.args.seam c.in_ok-open.open c.closed.result
    c.requires c.new-found.ensures.items (c.in_ok-open.ensures {u = tt}) c.closed.ensures
    (c.in_ok-push.ensures {u = tt}).items c.move_marks.ensures)
    c.put.ensures
