use Rattle.std.proofs.Common.{◌+◌, ◌*◌, drop}
use Rattle.lam_rules.specs.Types.{nodes, nodes_in}
use Rattle.lam_rules.specs.TypeViews.{typ_of, fields_of}
use Rattle.lam_rules.proofs.TableFields.{AreAdded}
use Rattle.lam_rules.proofs.table.TyTable.+add.Given as goal

abbrev pub decreases-add : goal.decreases-add
decreases-add l = 2 * nodes (typ_of l.ty.now)

abbrev pub decreases-add_fields : goal.decreases-add_fields
decreases-add_fields l = 2 * nodes_in (fields_of l.fields.now) + 1

abbrev pub invariant-add_fields-loop-i : goal.invariant-add_fields-loop-i
invariant-add_fields-loop-i l = AreAdded l.fn.self l.self l.items.items (fields_of (drop l.i l.fields)) (fields_of l.fields)
