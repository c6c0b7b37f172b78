use Rattle.std.proofs.Common.{arith}
use Rattle.std.proofs.lemmas.Grind.{common_steps}
use Rattle.std.proofs.lemmas.Slice.Eq.{bytes_eq-Decides}
use Rattle.lam_rules.proofs.TypeShapes.{fields_of-drop}
use Rattle.lam_sub.proofs.UnchangedRecords.{labels_not}
use Rattle.lam_sub.proofs.unchanged.have_same_labels.Goals as goal

pub returns-then-left-right : goal.returns-then-left-right
returns-then-left-right c = grind (arith, labels_not)

pub returns-then-ne : goal.returns-then-ne
returns-then-ne c = grind (arith, fields_of-drop, bytes_eq-Decides)

pub loop-i-preserved : goal.loop-i-preserved
loop-i-preserved c = grind (arith, fields_of-drop, bytes_eq-Decides)

pub returns : goal.returns
returns c = grind (arith, common_steps, fields_of-drop)
