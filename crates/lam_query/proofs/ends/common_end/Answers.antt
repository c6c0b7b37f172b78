use Rattle.std.proofs.Common.{◌≤◌, ◌+◌, length, sym, arith}
use Rattle.std.proofs.lemmas.Slice.Eq.{bytes_eq-Decides}
use Rattle.lam_query.proofs.CommonEnds.{none_at_end, end_more_by}
use Rattle.lam_query.proofs.ends.common_end.Goals as goal

pub loop-end-init : goal.loop-end-init
loop-end-init c = record { in_old = omega arith; in_new = omega arith; same = none_at_end c.as_bytes-old.result.now c.as_bytes-new.result.now }

pub loop-end-preserved : goal.loop-end-preserved
loop-end-preserved c =
    let old = c.as_bytes-old.result.now in
    let new = c.as_bytes-new.result.now in
    let before = c.loop-end.invariant in
    let in_old : c.loop-end.end + 4096 ≤ length old = omega (arith, c.loop-end-test.true, c.min-shorter.ensures, before.in_old) in
    let in_new : c.loop-end.end + 4096 ≤ length new = omega (arith, c.loop-end-test.true, c.min-shorter.ensures, before.in_new) in
    record {
      in_old = in_old;
      in_new = in_new;
      same = end_more_by old new c.loop-end.end 4096 in_old in_new before.same ((bytes_eq-Decides _ _).0 (sym c.if-eq.ensures));
    }
