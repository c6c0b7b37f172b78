use Rattle.std.proofs.Common.{map}
use Rattle.lam_scope.specs.TableViews.{place_number}
use Rattle.lam_query.specs.Views.{step_of}
use Rattle.lam_query.specs.inner.Ranges.{number_of}
use Rattle.lam_query.specs.inner.Backwards.{said_at}
use Rattle.lam_query.proofs.RangesBack.{one_placed}
use Rattle.lam_query.proofs.ranges.push_places.Goals as goal

pub loop-k-preserved : goal.loop-k-preserved
loop-k-preserved c =
    one_placed (number_of c.args.own) (map place_number c.args.terms.now) (said_at (map step_of c.args.steps.now)) c.args.premises.now c.loop-k.k
    c.loop-k.pending.items c.push.new.self.items c.place_of.result _ c.loop-k-test.true c.in_ok-push.ensures.items (rw c.step_at-premise.ensures at c.place_of.ensures) c.loop-k.invariant
