use Rattle.std.proofs.Common.{arith}
use Rattle.std.proofs.lemmas.Slice.Eq.{bytes_eq-Decides}
use Rattle.lam_rules.proofs.TypeShapes.{fields_of-drop}
use Rattle.lam_rules.proofs.SubShapes.{goes_not_fields, goes_not_premises, claims_of-drop}
use Rattle.std.proofs.lemmas.Grind.{common_steps}
use Rattle.lam_rules.proofs.subtyping.goes_field_by_field.Goals as goal

pub returns-then-lower-upper : goal.returns-then-lower-upper
returns-then-lower-upper c = grind (arith, goes_not_fields, goes_not_premises)

pub returns-then-lower-premises : goal.returns-then-lower-premises
returns-then-lower-premises c = grind (arith, goes_not_fields, goes_not_premises)

pub returns-then-ne : goal.returns-then-ne
returns-then-ne c = grind (arith, fields_of-drop, claims_of-drop, bytes_eq-Decides)

pub returns-then-not-same : goal.returns-then-not-same
returns-then-not-same c = grind (arith, fields_of-drop, claims_of-drop, bytes_eq-Decides)

pub returns-then-not-same-2 : goal.returns-then-not-same-2
returns-then-not-same-2 c = grind (arith, fields_of-drop, claims_of-drop, bytes_eq-Decides)

pub loop-i-preserved : goal.loop-i-preserved
loop-i-preserved c = grind (arith, fields_of-drop, claims_of-drop, bytes_eq-Decides)

pub returns : goal.returns
returns c = grind (arith, common_steps, fields_of-drop)
