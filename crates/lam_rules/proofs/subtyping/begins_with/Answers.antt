use Rattle.std.proofs.Common.{arith}
use Rattle.std.proofs.lemmas.Slice.Eq.{bytes_eq-Decides}
use Rattle.lam_rules.proofs.TypeShapes.{fields_of-drop}
use Rattle.lam_rules.proofs.SubShapes.{begins_with_not}
use Rattle.std.proofs.lemmas.Grind.{common_steps}
use Rattle.lam_rules.proofs.subtyping.begins_with.Goals as goal

pub returns-then-fields-first_fields : goal.returns-then-fields-first_fields
returns-then-fields-first_fields c = grind (arith, begins_with_not)

pub returns-then-ne : goal.returns-then-ne
returns-then-ne c = grind (arith, fields_of-drop, bytes_eq-Decides)

pub returns-then-not-same : goal.returns-then-not-same
returns-then-not-same c = grind (arith, fields_of-drop, bytes_eq-Decides)

pub loop-i-preserved : goal.loop-i-preserved
loop-i-preserved c = grind (arith, fields_of-drop, bytes_eq-Decides)

pub returns : goal.returns
returns c = grind (arith, common_steps, fields_of-drop)
