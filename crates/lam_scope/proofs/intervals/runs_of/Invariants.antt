use Rattle.std.proofs.Common.{◌-◌, ◌≤◌, ◌++◌, List, length, drop, map}
use Rattle.lam_scope.specs.declared.intervals.Interval.{Interval}
use Rattle.lam_scope.specs.Intervals.{AreRuns}
use Rattle.lam_scope.proofs.intervals.runs_of.Given as goal

abbrev pub invariant-loop-before : goal.invariant-loop-before
invariant-loop-before g l = record {
  within : l.before ≤ length l.rows;
  runs : (rs : List Interval) → AreRuns rs (drop l.before (map g.T.HasInterval.interval_of l.rows)) → AreRuns (l.runs.items ++ rs) (map g.T.HasInterval.interval_of l.rows);
}

abbrev pub decreases-loop-before : goal.decreases-loop-before
decreases-loop-before g l = length l.rows - l.before
