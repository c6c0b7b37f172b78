use Rattle.std.proofs.Common.{◌≡◌, ◌+◌, drop, map}
use Rattle.std.specs.List.{position_from}
use Rattle.lam_scope.specs.Intervals.{has}
use Rattle.lam_scope.proofs.intervals.first_of.Given as goal

abbrev pub invariant-loop-i : goal.invariant-loop-i
invariant-loop-i g l =
    position_from (has l.offset) l.before (map g.T.HasInterval.interval_of l.run)
    ≡ position_from (has l.offset) (l.before + l.i) (drop l.i (map g.T.HasInterval.interval_of l.run))
