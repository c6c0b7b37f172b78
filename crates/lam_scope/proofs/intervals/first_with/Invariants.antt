use Rattle.std.proofs.Common.{◌≡◌, ◌≤◌, length, drop, position, map}
use Rattle.std.specs.List.{position_from}
use Rattle.lam_scope.specs.Intervals.{has, AreRuns}
use Rattle.lam_scope.proofs.intervals.first_with.Given as goal

abbrev pub invariant-loop-i : goal.invariant-loop-i
invariant-loop-i g l = record {
  within : l.before ≤ length l.rows;
  runs : AreRuns (drop l.i l.runs) (drop l.before (map g.T.HasInterval.interval_of l.rows));
  found : position (has l.offset) (map g.T.HasInterval.interval_of l.rows) ≡ position_from (has l.offset) l.before (drop l.before (map g.T.HasInterval.interval_of l.rows));
}
