use Rattle.std.proofs.Common.{sym, ◌∙◌}
use Rattle.lam_scope.proofs.IntervalRuns.{found_in_run, missed_in_run}
use Rattle.lam_scope.proofs.intervals.first_of.Goals as goal

pub returns-then-has : goal.returns-then-has
returns-then-has g c =
    found_in_run g.T.HasInterval.interval_of c.args.offset c.args.before c.loop-i.i c.args.run.now c.index-run-i.result c.interval-interval.result c.loop-i-test.true c.index-run-i.is c.interval-interval.ensures
    (sym c.has.ensures ∙ c.if-has.true) c.loop-i.invariant

pub loop-i-preserved : goal.loop-i-preserved
loop-i-preserved g c =
    missed_in_run g.T.HasInterval.interval_of c.args.offset c.args.before c.loop-i.i c.args.run.now c.index-run-i.result c.interval-interval.result c.loop-i-test.true c.index-run-i.is c.interval-interval.ensures
    (sym c.has.ensures ∙ c.if-has.false) c.loop-i.invariant
