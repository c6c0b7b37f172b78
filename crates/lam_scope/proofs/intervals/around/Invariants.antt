use Rattle.std.proofs.Common.{take, map}
use Rattle.lam_scope.specs.Intervals.{AreParts}
use Rattle.lam_scope.proofs.intervals.around.Given as goal

abbrev pub invariant-loop-i : goal.invariant-loop-i
invariant-loop-i g l = AreParts (take l.i (map g.T.HasInterval.interval_of l.run)) l.whole
