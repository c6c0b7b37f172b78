use Rattle.std.proofs.Common.{refl}
use Rattle.lam_query.proofs.FaultsPlaced.{fault_pushed}
use Rattle.lam_query.proofs.row_faults.push_after.Goals as goal

pub loop-i-preserved : goal.loop-i-preserved
loop-i-preserved c =
    fault_pushed c.args.bytes c.args.faults.now c.loop-i.i _ _ c.loop-i-test.true _ _ _ refl c.span_after.ensures c.in_ok-push.ensures.items c.loop-i.invariant
