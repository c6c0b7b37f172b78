use Rattle.std.proofs.Common.{arith}
use Rattle.lam_rules.proofs.TableEntries.{fields_over-drop, below_read}
use Rattle.std.proofs.lemmas.Grind.{common_steps}
use Rattle.lam_rules.proofs.table.TyTable.size_of_fields.Goals as goal

pub size-requires : goal.size-requires
size-requires c = grind (arith, fields_over-drop, below_read)

pub overflow_add-total : goal.overflow_add-total
overflow_add-total c = grind (arith, fields_over-drop, below_read)

pub loop-i-preserved : goal.loop-i-preserved
loop-i-preserved c = grind (arith, common_steps, fields_over-drop)

pub returns : goal.returns
returns c = grind (arith, common_steps)
