use Rattle.std.proofs.Common.{arith}
use Rattle.lam_rules.proofs.TypeShapes.{shapes, fields_of-drop}
use Rattle.std.proofs.lemmas.Grind.{common_steps}
use Rattle.std.proofs.lemmas.Slice.Eq.{bytes_eq-Decides}
use Rattle.lam_rules.proofs.types.+same.Goals as goal

pub same-returns-in_default-right : goal.same-returns-in_default-right
same-returns-in_default-right t c = grind (arith, shapes)

pub same-returns-then-not-same : goal.same-returns-then-not-same
same-returns-then-not-same t c = grind (arith, shapes)

pub same-returns-in_default-right-2 : goal.same-returns-in_default-right-2
same-returns-in_default-right-2 t c = grind (arith, shapes)

pub same-returns-in-Bool-matches : goal.same-returns-in-Bool-matches
same-returns-in-Bool-matches t c = grind (arith, shapes)

pub same-returns-in_default : goal.same-returns-in_default
same-returns-in_default t c = grind (arith, shapes)

pub same-returns-in-Nat-matches : goal.same-returns-in-Nat-matches
same-returns-in-Nat-matches t c = grind (arith, shapes)

pub same-returns-in_default-matches : goal.same-returns-in_default-matches
same-returns-in_default-matches t c = grind (arith, shapes)

pub same-returns-in-Unit-matches : goal.same-returns-in-Unit-matches
same-returns-in-Unit-matches t c = grind (arith, shapes)

pub same-returns-in_default-matches-2 : goal.same-returns-in_default-matches-2
same-returns-in_default-matches-2 t c = grind (arith, shapes)

pub same-returns-in-Top-matches : goal.same-returns-in-Top-matches
same-returns-in-Top-matches t c = grind (arith, shapes)

pub same-returns-in_default-matches-3 : goal.same-returns-in_default-matches-3
same-returns-in_default-matches-3 t c = grind (arith, shapes)

pub same-returns-else-not-same : goal.same-returns-else-not-same
same-returns-else-not-same t c = grind (arith, shapes)

pub same-returns-in-Record-right : goal.same-returns-in-Record-right
same-returns-in-Record-right t c = grind (arith, shapes)

pub same_fields-returns-then-left-right : goal.same_fields-returns-then-left-right
same_fields-returns-then-left-right t c = grind (arith, shapes)

pub same_fields-returns-then-ne : goal.same_fields-returns-then-ne
same_fields-returns-then-ne t c = grind (arith, fields_of-drop, bytes_eq-Decides)

pub same_fields-returns-then-not-same : goal.same_fields-returns-then-not-same
same_fields-returns-then-not-same t c = grind (arith, common_steps, fields_of-drop)

pub same_fields-loop-i-preserved : goal.same_fields-loop-i-preserved
same_fields-loop-i-preserved t c = grind (arith, fields_of-drop, bytes_eq-Decides)

pub same_fields-returns : goal.same_fields-returns
same_fields-returns t c = grind (arith, common_steps, fields_of-drop)
