use Rattle.std.proofs.Common.{arith}
use Rattle.std.proofs.lemmas.Grind.{common_steps}
use Rattle.lam_rules.proofs.TypeShapes.{fields_of-drop}
use Rattle.std.proofs.lemmas.Slice.Eq.{bytes_eq-Decides}
use Rattle.lam_rules.proofs.types.has_field.Goals as goal

pub returns-then-same : goal.returns-then-same
returns-then-same c = grind (arith, fields_of-drop, bytes_eq-Decides)

pub loop-field-preserved : goal.loop-field-preserved
loop-field-preserved c = grind (arith, fields_of-drop, bytes_eq-Decides)

pub returns : goal.returns
returns c = grind (arith, common_steps, fields_of-drop)
