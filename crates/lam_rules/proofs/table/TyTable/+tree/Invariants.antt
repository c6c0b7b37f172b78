use Rattle.std.proofs.Common.{◌≡◌, ◌+◌, ◌*◌, drop}
use Rattle.lam_rules.specs.Types.{joined}
use Rattle.lam_rules.specs.TypeViews.{fields_of}
use Rattle.lam_rules.specs.Numbers.{fields_over}
use Rattle.lam_rules.proofs.TableFields.{bound_of}
use Rattle.lam_rules.proofs.table.TyTable.+tree.Given as goal

abbrev pub decreases-tree : goal.decreases-tree
decreases-tree l = 2 * l.number.index + 1

abbrev pub decreases-tree_fields : goal.decreases-tree_fields
decreases-tree_fields l = 2 * bound_of l.fields.now

abbrev pub invariant-tree_fields-loop-i : goal.invariant-tree_fields-loop-i
invariant-tree_fields-loop-i l =
    joined (fields_of l.items.items) (fields_over l.self (drop l.i l.fields)) ≡ fields_over l.self l.fields
