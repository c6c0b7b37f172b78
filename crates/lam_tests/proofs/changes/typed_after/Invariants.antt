use Rattle.std.specs.Prelude.{string_bytes}
use Rattle.lam_query.specs.Analyses.{IsAnalysisOf}
use Rattle.lam_tests.proofs.changes.typed_after.Given as goal

abbrev pub invariant-loop-i : goal.invariant-loop-i
invariant-loop-i l = IsAnalysisOf (string_bytes l.old) l.analysis
