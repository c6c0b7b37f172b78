use Rattle.std.proofs.Common.{arith}
use Rattle.lam_rules.proofs.TypeShapes.{shapes, fields_of-drop}
use Rattle.std.proofs.lemmas.Grind.{common_steps}
use Rattle.lam_rules.proofs.types.+wf.Goals as goal

pub wf-returns-then-not-wf : goal.wf-returns-then-not-wf
wf-returns-then-not-wf t c = grind (arith, shapes)

pub wf-returns-in-Bool : goal.wf-returns-in-Bool
wf-returns-in-Bool t c = grind (arith, shapes)

pub wf-returns-in-Nat : goal.wf-returns-in-Nat
wf-returns-in-Nat t c = grind (arith, shapes)

pub wf-returns-in-Unit : goal.wf-returns-in-Unit
wf-returns-in-Unit t c = grind (arith, shapes)

pub wf-returns-in-Top : goal.wf-returns-in-Top
wf-returns-in-Top t c = grind (arith, shapes)

pub wf-returns-else-not-wf : goal.wf-returns-else-not-wf
wf-returns-else-not-wf t c = grind (arith, shapes)

pub wf-returns-in-Record : goal.wf-returns-in-Record
wf-returns-in-Record t c = grind (arith, shapes)

pub wf_fields-returns-then-not-wf : goal.wf_fields-returns-then-not-wf
wf_fields-returns-then-not-wf t c = grind (arith, common_steps, fields_of-drop)

pub wf_fields-returns-then-not-is_absent : goal.wf_fields-returns-then-not-is_absent
wf_fields-returns-then-not-is_absent t c = grind (arith, common_steps, fields_of-drop)

pub wf_fields-loop-i-preserved : goal.wf_fields-loop-i-preserved
wf_fields-loop-i-preserved t c = grind (arith, common_steps, fields_of-drop)

pub wf_fields-returns : goal.wf_fields-returns
wf_fields-returns t c = grind (arith, common_steps, fields_of-drop)
