use Rattle.std.proofs.Common.{refl}
use Rattle.lam_query.proofs.ExplainedLists.{explained_pushed}
use Rattle.lam_query.proofs.mismatches.push_unexplained.Goals as goal

pub loop-i-preserved : goal.loop-i-preserved
loop-i-preserved c =
    explained_pushed c.args.bytes c.args.faults.now c.loop-i.i _ _ c.loop-i-test.true _ _ _ refl c.span_after.ensures refl c.in_ok-push.ensures.items
    c.loop-i.invariant
