use Rattle.std.proofs.Common.{◌≡◌, drop}
use Rattle.lam_syntax.specs.Views.{type_fields_of}
use Rattle.lam_scope.specs.Tables.{◌⊕◌, field_uses}
use Rattle.lam_scope.specs.TableViews.{rows_of}
use Rattle.lam_scope.proofs.walk.+types.Given as goal

abbrev pub invariant-walk_type_fields-loop-i : goal.invariant-walk_type_fields-loop-i
invariant-walk_type_fields-loop-i l = record {
  table : rows_of l.rows ⊕ field_uses l.types (type_fields_of (drop l.i l.fields)) ≡ rows_of l.initial.rows ⊕ field_uses l.types (type_fields_of l.fields);
  binders : l.rows.binders ≡ l.initial.rows.binders;
  places : l.rows.places ≡ l.initial.rows.places;
}
