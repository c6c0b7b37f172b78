use Rattle.std.proofs.Common.{take}
use Rattle.lam_query.specs.inner.Entries.{IsPassedBy}
use Rattle.lam_query.specs.inner.Kept.{rows_of}
use Rattle.lam_query.proofs.entries.Entries.pass.Given as goal

abbrev pub invariant-loop-i : goal.invariant-loop-i
invariant-loop-i l = IsPassedBy (rows_of (take l.i l.rows)) l.fn.self l.self
