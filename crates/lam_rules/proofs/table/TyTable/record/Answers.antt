use Rattle.std.proofs.Common.{arith}
use Rattle.lam_rules.proofs.TableFields.{copied_below, copied_apart, copied_fields}
use Rattle.lam_rules.proofs.table.TyTable.record.Goals as goal

pub intern-requires-clause-over : goal.intern-requires-clause-over
intern-requires-clause-over c = copied_below _ _ _ c.in_ok-items.ensures c.requires.numbers

pub intern-requires-clause-labels : goal.intern-requires-clause-labels
intern-requires-clause-labels c = copied_apart _ _ c.in_ok-items.ensures c.requires.labels

pub returns-clause-number : goal.returns-clause-number
returns-clause-number c = grind (arith, copied_fields)
