use Rattle.std.proofs.Common.{◌+◌, length, rules, refl, arith}
use Rattle.lam_scope.proofs.IntervalRuns.{run_within, rows_more, rows_all}
use Rattle.lam_scope.proofs.intervals.runs_of.Goals as goal

pub overflow_add-before : goal.overflow_add-before
overflow_add-before g c =
    let run = c.run_behind-run.result.now in
    let within = run_within c.args.rows.now run c.loop-before.before (c.loop-before.before + length run) c.loop-before.invariant.within c.run_behind-run.ensures refl in
    record { fits = omega (arith, within, c.requires) }

pub loop-before-preserved : goal.loop-before-preserved
loop-before-preserved g c =
    let run = c.run_behind-run.result.now in
    let is = c.run_behind-run.ensures in
    record {
      within = run_within c.args.rows.now run c.loop-before.before _ c.loop-before.invariant.within is (search rules);
      runs = rows_more g.T.HasInterval.interval_of c.args.rows.now run c.loop-before.runs.items _ c.loop-before.before _ c.around-whole.result is (search rules) c.around-whole.ensures c.in_ok-push.ensures.items
          c.loop-before.invariant.runs;
    }

pub returns : goal.returns
returns g c = rows_all g.T.HasInterval.interval_of c.args.rows.now c.loop-before.runs.items c.loop-before.before c.loop-before-test.false c.loop-before.invariant.runs
