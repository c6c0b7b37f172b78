use Rattle.std.proofs.Common.{arith}
use Rattle.lam_rules.proofs.TypeShapes.{shapes, fields_of-drop}
use Rattle.std.proofs.lemmas.Grind.{common_steps}
use Rattle.lam_rules.proofs.types.+size.Goals as goal

pub size-returns-in-Bool : goal.size-returns-in-Bool
size-returns-in-Bool t c = grind (arith, shapes)

pub size-returns-in-Nat : goal.size-returns-in-Nat
size-returns-in-Nat t c = grind (arith, shapes)

pub size-returns-in-Unit : goal.size-returns-in-Unit
size-returns-in-Unit t c = grind (arith, shapes)

pub size-returns-in-Top : goal.size-returns-in-Top
size-returns-in-Top t c = grind (arith, shapes)

pub size-returns-in-Arrow : goal.size-returns-in-Arrow
size-returns-in-Arrow t c = grind (arith, shapes)

pub size-returns-in-Record : goal.size-returns-in-Record
size-returns-in-Record t c = grind (arith, shapes)

pub size_of_fields-loop-i-preserved : goal.size_of_fields-loop-i-preserved
size_of_fields-loop-i-preserved t c = grind (arith, common_steps, fields_of-drop)

pub size_of_fields-returns : goal.size_of_fields-returns
size_of_fields-returns t c = grind (arith, common_steps, fields_of-drop)
