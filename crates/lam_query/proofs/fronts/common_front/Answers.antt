use Rattle.std.proofs.Common.{sym, arith}
use Rattle.std.proofs.lemmas.Slice.Eq.{bytes_eq-Decides}
use Rattle.lam_query.proofs.CommonEnds.{front_more_by}
use Rattle.lam_query.proofs.fronts.common_front.Goals as goal

pub loop-front-preserved : goal.loop-front-preserved
loop-front-preserved c =
    let before = c.loop-front.invariant in
    record {
      in_old = omega (arith, c.loop-front-test.true, c.min-shorter.ensures, before.in_old);
      in_new = omega (arith, c.loop-front-test.true, c.min-shorter.ensures, before.in_new);
      same = front_more_by c.as_bytes-old.result.now c.as_bytes-new.result.now c.loop-front.front 4096 before.same ((bytes_eq-Decides _ _).0 (sym c.if-eq.ensures));
    }
