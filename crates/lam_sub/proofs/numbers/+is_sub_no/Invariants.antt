use Rattle.std.proofs.Common.{◌≡◌, ◌↔◌, ◌+◌, ◌*◌, drop}
use Rattle.lam_rules.specs.Types.{nodes, nodes_in}
use Rattle.lam_rules.specs.Numbers.{type_of, fields_over}
use Rattle.lam_sub.specs.inner.FieldsBelow.{AreBelow}
use Rattle.lam_sub.specs.Remembered.{AreRight}
use Rattle.lam_sub.proofs.numbers.+is_sub_no.Given as goal

abbrev pub invariant-are_fields_sub_no-loop-i : goal.invariant-are_fields_sub_no-loop-i
invariant-are_fields_sub_no-loop-i l = record {
  dialect : l.verdicts.dialect ≡ l.initial.verdicts.dialect;
  right : AreRight l.table l.verdicts;
  rest : AreBelow (fields_over l.table l.lower) (fields_over l.table l.upper) l.initial.verdicts.dialect
      ↔ AreBelow (fields_over l.table l.lower) (fields_over l.table (drop l.i l.upper)) l.initial.verdicts.dialect;
}

abbrev pub decreases-is_sub_no : goal.decreases-is_sub_no
decreases-is_sub_no l = 3 * (nodes (type_of l.table.now l.lower) + nodes (type_of l.table.now l.upper)) + 1

abbrev pub decreases-compare : goal.decreases-compare
decreases-compare l = 3 * (nodes (type_of l.table.now l.lower) + nodes (type_of l.table.now l.upper))

abbrev pub decreases-are_fields_sub_no : goal.decreases-are_fields_sub_no
decreases-are_fields_sub_no l = 3 * (nodes_in (fields_over l.table.now l.lower.now) + nodes_in (fields_over l.table.now l.upper.now)) + 2
