use Rattle.std.proofs.Common.{arith}
use Rattle.lam_rules.proofs.TypeShapes.{shapes, typ_of-Bool, typ_of-Nat, typ_of-Unit, typ_of-Top, fields_of-drop}
use Rattle.std.proofs.lemmas.Grind.{common_steps}
use Rattle.lam_rules.proofs.texts.+write.Goals as goal

pub write_fields-loop-i-preserved : goal.write_fields-loop-i-preserved
write_fields-loop-i-preserved t c = grind (arith, common_steps, fields_of-drop)

pub write_fields-returns : goal.write_fields-returns
write_fields-returns t c = grind (arith, common_steps)

pub write_parameter-returns-in_ok-write_type-in-Arrow : goal.write_parameter-returns-in_ok-write_type-in-Arrow
write_parameter-returns-in_ok-write_type-in-Arrow t c = grind (arith, shapes)

pub write_parameter-returns-in_default : goal.write_parameter-returns-in_default
write_parameter-returns-in_default t c = grind (arith, shapes)

pub write_type-returns-in-Bool : goal.write_type-returns-in-Bool
write_type-returns-in-Bool t c = grind (arith, typ_of-Bool)

pub write_type-returns-in-Nat : goal.write_type-returns-in-Nat
write_type-returns-in-Nat t c = grind (arith, typ_of-Nat)

pub write_type-returns-in-Unit : goal.write_type-returns-in-Unit
write_type-returns-in-Unit t c = grind (arith, typ_of-Unit)

pub write_type-returns-in-Top : goal.write_type-returns-in-Top
write_type-returns-in-Top t c = grind (arith, typ_of-Top)

pub write_type-returns-in_ok-push_str-in-Arrow : goal.write_type-returns-in_ok-push_str-in-Arrow
write_type-returns-in_ok-push_str-in-Arrow t c = grind (arith, shapes)

pub write_type-returns-in_ok-write_fields-in-Record : goal.write_type-returns-in_ok-write_fields-in-Record
write_type-returns-in_ok-write_fields-in-Record t c = grind (arith, shapes)
