use Rattle.std.proofs.Common.{arith}
use Rattle.lam_rules.proofs.TypeShapes.{fields_of-drop}
use Rattle.std.proofs.lemmas.Grind.{common_steps}
use Rattle.lam_rules.proofs.subtyping.includes.Goals as goal

pub returns-then-not-has_field : goal.returns-then-not-has_field
returns-then-not-has_field c = grind (arith, fields_of-drop)

pub loop-field-preserved : goal.loop-field-preserved
loop-field-preserved c = grind (arith, fields_of-drop)

pub returns : goal.returns
returns c = grind (arith, common_steps)
