use Rattle.std.proofs.Common.{arith}
use Rattle.lam_rules.proofs.TypeShapes.{typ_of-Arrow}
use Rattle.lam_rules.proofs.types.make_arrow.Goals as goal

pub returns : goal.returns
returns c = grind (arith, typ_of-Arrow)
