use Rattle.std.proofs.Common.{length, map}
use Rattle.lam_scope.specs.TableViews.{text_binder}
use Rattle.lam_scope.proofs.Reading.{chain_more}
use Rattle.lam_scope.proofs.scopes.chain.Goals as goal

pub loop-i-preserved : goal.loop-i-preserved
loop-i-preserved c =
    chain_more (map text_binder c.args.binders.now) c.loop-i.found.items _ c.in-Some.binder _ c.loop-i.next (length c.args.binders.now) c.loop-i.i _ c.loop-i-test.true c.in-Some.is
    c.in_ok-push.ensures.items c.outer_of-next.ensures c.loop-i.invariant
