use Rattle.std.proofs.Common.{arith}
use Rattle.lam_rules.proofs.TypeShapes.{shapes, typ_of-Record}
use Rattle.lam_rules.proofs.SubShapes.{sub_shapes}
use Rattle.lam_rules.proofs.subtyping.by_permutation.Goals as goal

pub returns-then-not-is_empty : goal.returns-then-not-is_empty
returns-then-not-is_empty c = grind (arith, shapes, sub_shapes)

pub returns-in_default : goal.returns-in_default
returns-in_default c = grind (arith, shapes, sub_shapes)

pub returns-in_default-upper : goal.returns-in_default-upper
returns-in_default-upper c = grind (arith, shapes, sub_shapes)

pub returns : goal.returns
returns c = grind (arith, shapes, sub_shapes)

pub is_permutation-requires-clause-fields : goal.is_permutation-requires-clause-fields
is_permutation-requires-clause-fields c = grind (arith, typ_of-Record)

pub is_permutation-requires-clause-others : goal.is_permutation-requires-clause-others
is_permutation-requires-clause-others c = grind (arith, typ_of-Record)
