use Rattle.std.proofs.Common.{List}
use Rattle.lam_syntax.specs.Trees.{CommandTree}
use Rattle.lam_query.specs.Views.{derivation_of}
use Rattle.lam_query.specs.inner.Verifying.{IsTextOf}
use Rattle.lam_query.proofs.Results.{IsSoFar}
use Rattle.lam_query.proofs.verify.TypedText.fault_of.Given as goal

abbrev pub invariant-loop-i : goal.invariant-loop-i
invariant-loop-i l = (commands : List CommandTree) → IsTextOf commands l.self → IsSoFar commands (derivation_of l.derivation) l.self.dialect l.i l.first
