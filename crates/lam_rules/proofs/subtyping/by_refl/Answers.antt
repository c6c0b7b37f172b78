use Rattle.std.proofs.Common.{arith}
use Rattle.lam_rules.proofs.TypeShapes.{shapes}
use Rattle.lam_rules.proofs.SubShapes.{sub_shapes}
use Rattle.lam_rules.proofs.subtyping.by_refl.Goals as goal

pub returns-then-not-is_empty : goal.returns-then-not-is_empty
returns-then-not-is_empty c = grind (arith, shapes, sub_shapes)

pub returns : goal.returns
returns c = grind (arith, shapes, sub_shapes)
