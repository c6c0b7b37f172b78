use Rattle.std.proofs.Common.{drop}
use Rattle.lam_query.specs.inner.Kept.{rows_of}
use Rattle.lam_query.proofs.ReboundNames.{AreRebound}
use Rattle.lam_query.proofs.fronts.bind_again.Given as goal

abbrev pub invariant-loop-i : goal.invariant-loop-i
invariant-loop-i l = AreRebound (rows_of l.rows) (rows_of (drop l.i l.rows)) l.fn.bound l.bound
