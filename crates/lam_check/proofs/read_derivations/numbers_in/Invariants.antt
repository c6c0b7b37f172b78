use Rattle.lam_check.specs.inner.Read.{number_value}
use Rattle.lam_check.proofs.ReadValues.{AreReadTo}
use Rattle.lam_check.proofs.read_derivations.numbers_in.Given as goal

abbrev pub invariant-loop-i : goal.invariant-loop-i
invariant-loop-i l = AreReadTo number_value l.values l.i l.numbers.items
