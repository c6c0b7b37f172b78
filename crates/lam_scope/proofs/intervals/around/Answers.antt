use Rattle.lam_scope.proofs.IntervalRuns.{around_row, around_all}
use Rattle.lam_scope.proofs.intervals.around.Goals as goal

pub loop-i-preserved : goal.loop-i-preserved
loop-i-preserved g c =
    around_row g.T.HasInterval.interval_of c.args.run.now c.loop-i.i c.index-run-i.result c.interval-interval.result c.loop-i.whole c.joined-whole.result c.loop-i-test.true c.index-run-i.is c.interval-interval.ensures c.loop-i.invariant
    c.joined-whole.ensures.one c.joined-whole.ensures.other

pub returns : goal.returns
returns g c = around_all g.T.HasInterval.interval_of c.args.run.now c.loop-i.i c.loop-i.whole c.loop-i-test.false c.loop-i.invariant
