use Rattle.std.proofs.Common.{◌≡◌, drop, length}
use Rattle.lam_rules.specs.Types.{joined}
use Rattle.lam_rules.specs.Numbers.{AreEarlier, fields_over}
use Rattle.lam_rules.proofs.SortedForms.{sorted_inside}
use Rattle.lam_rules.proofs.table.TyTable.sorted_fields.Given as goal

abbrev pub invariant-loop-i : goal.invariant-loop-i
invariant-loop-i l =
    AreEarlier (length l.self) l.made.items
    × (joined (fields_over l.self l.made.items) (sorted_inside (fields_over l.self (drop l.i l.fields))) ≡ sorted_inside (fields_over l.self l.fields))
