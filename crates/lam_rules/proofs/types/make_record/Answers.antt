use Rattle.std.proofs.Common.{arith}
use Rattle.lam_rules.proofs.TypeShapes.{typ_of-made}
use Rattle.lam_rules.proofs.types.make_record.Goals as goal

pub returns : goal.returns
returns c = grind (arith, typ_of-made)
