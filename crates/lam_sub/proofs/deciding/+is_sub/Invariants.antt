use Rattle.std.proofs.Common.{◌↔◌, ◌+◌, ◌*◌, drop}
use Rattle.lam_rules.specs.Types.{nodes, nodes_in}
use Rattle.lam_rules.specs.TypeViews.{typ_of, fields_of}
use Rattle.lam_sub.specs.inner.FieldsBelow.{AreBelow}
use Rattle.lam_sub.proofs.deciding.+is_sub.Given as goal

abbrev pub invariant-are_fields_sub-loop-i : goal.invariant-are_fields_sub-loop-i
invariant-are_fields_sub-loop-i l =
    AreBelow (fields_of l.lower) (fields_of l.upper) l.dialect ↔ AreBelow (fields_of l.lower) (fields_of (drop l.i l.upper)) l.dialect

abbrev pub decreases-is_sub : goal.decreases-is_sub
decreases-is_sub l = 2 * (nodes (typ_of l.lower.now) + nodes (typ_of l.upper.now))

abbrev pub decreases-are_fields_sub : goal.decreases-are_fields_sub
decreases-are_fields_sub l = 2 * (nodes_in (fields_of l.lower.now) + nodes_in (fields_of l.upper.now)) + 1
