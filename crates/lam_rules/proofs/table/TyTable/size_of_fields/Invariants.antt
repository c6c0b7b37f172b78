use Rattle.std.proofs.Common.{◌≡◌, ◌+◌, ◌≤◌, min, drop}
use Rattle.lam_rules.specs.Types.{nodes_in}
use Rattle.lam_rules.specs.Numbers.{fields_over}
use Rattle.lam_rules.proofs.table.TyTable.size_of_fields.Given as goal

abbrev pub invariant-loop-i : goal.invariant-loop-i
invariant-loop-i l =
    (min (nodes_in (fields_over l.self l.fields)) 4097 ≡ min (l.total + nodes_in (fields_over l.self (drop l.i l.fields))) 4097)
    × (l.total ≤ 4097)
