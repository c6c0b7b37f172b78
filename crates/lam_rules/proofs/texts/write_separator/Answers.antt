use Rattle.std.proofs.Common.{arith}
use Rattle.lam_rules.proofs.TypeShapes.{separator_before-some}
use Rattle.lam_rules.proofs.texts.write_separator.Goals as goal

pub returns : goal.returns
returns c = grind (arith, separator_before-some)
