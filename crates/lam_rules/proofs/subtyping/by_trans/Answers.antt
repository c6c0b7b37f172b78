use Rattle.std.proofs.Common.{arith}
use Rattle.lam_rules.proofs.TypeShapes.{shapes}
use Rattle.lam_rules.proofs.SubShapes.{sub_shapes}
use Rattle.lam_rules.proofs.subtyping.by_trans.Goals as goal

pub returns-in_default : goal.returns-in_default
returns-in_default c = grind (arith, shapes, sub_shapes)

pub returns-in_default-2 : goal.returns-in_default-2
returns-in_default-2 c = grind (arith, shapes, sub_shapes)

pub returns-then-not-same : goal.returns-then-not-same
returns-then-not-same c = grind (arith, shapes, sub_shapes)

pub returns-then-not-same-2 : goal.returns-then-not-same-2
returns-then-not-same-2 c = grind (arith, shapes, sub_shapes)

pub returns : goal.returns
returns c = grind (arith, shapes, sub_shapes)
