use Rattle.std.proofs.Common.{◌≡◌, ◌+◌, ◌*◌, ◌++◌, length, map, drop}
use Rattle.lam_syntax.specs.Views.{term_of, fields_of}
use Rattle.lam_scope.proofs.TreeSizes.{tree_size, tree_sizes}
use Rattle.lam_scope.specs.Tables.{◌⊕◌, fields_table, roots_of_fields, binders_in_fields, below_fields}
use Rattle.lam_scope.specs.TableViews.{rows_of, place_number}
use Rattle.lam_scope.proofs.walk.+terms.Given as goal

abbrev pub invariant-walk_fields-loop-i : goal.invariant-walk_fields-loop-i
invariant-walk_fields-loop-i l = record {
  table : rows_of l.rows ⊕ fields_table l.types l.names (length l.rows.binders.items) (length l.rows.places.items) (fields_of (drop l.i l.fields))
      ≡ rows_of l.initial.rows ⊕ fields_table l.types l.initial.names (length l.initial.rows.binders.items) (length l.initial.rows.places.items) (fields_of l.fields);
  terms : map place_number l.terms.items ++ roots_of_fields (length l.rows.places.items) (fields_of (drop l.i l.fields)) ≡ roots_of_fields (length l.initial.rows.places.items) (fields_of l.fields);
  binders : length l.rows.binders.items + binders_in_fields (fields_of (drop l.i l.fields)) ≡ length l.initial.rows.binders.items + binders_in_fields (fields_of l.fields);
  places : length l.rows.places.items + below_fields (fields_of (drop l.i l.fields)) ≡ length l.initial.rows.places.items + below_fields (fields_of l.fields);
  names : l.names ≡ l.initial.names;
}

-- each walk ends by the sizes of the terms that it has left

abbrev pub decreases-walk_term : goal.decreases-walk_term
decreases-walk_term l = 6 * tree_size (term_of l.term.now) + 1

abbrev pub decreases-walk_if : goal.decreases-walk_if
decreases-walk_if l = 6 * (tree_size (term_of l.term.now.condition) + tree_size (term_of l.term.now.then_term) + tree_size (term_of l.term.now.else_term)) + 5

abbrev pub decreases-walk_let : goal.decreases-walk_let
decreases-walk_let l = 6 * (tree_size (term_of l.term.now.bound) + tree_size (term_of l.term.now.body)) + 5

abbrev pub decreases-walk_letrec : goal.decreases-walk_letrec
decreases-walk_letrec l = 6 * (tree_size (term_of l.term.now.bound) + tree_size (term_of l.term.now.body)) + 5

abbrev pub decreases-walk_apply : goal.decreases-walk_apply
decreases-walk_apply l = 6 * (tree_size (term_of l.term.now.function) + tree_size (term_of l.term.now.argument)) + 5

abbrev pub decreases-walk_fields : goal.decreases-walk_fields
decreases-walk_fields l = 6 * tree_sizes (fields_of l.fields.now) + 3

abbrev pub decreases-walk_under : goal.decreases-walk_under
decreases-walk_under l = 6 * tree_size (term_of l.body.now) + 2

abbrev pub decreases-walk_bound : goal.decreases-walk_bound
decreases-walk_bound l = 6 * tree_size (term_of l.bound.now) + 2

abbrev pub decreases-walk_lambda : goal.decreases-walk_lambda
decreases-walk_lambda l = 6 * tree_size (term_of l.term.now.body) + 4

abbrev pub decreases-walk_fix : goal.decreases-walk_fix
decreases-walk_fix l = 6 * tree_size (term_of l.term.now.bound) + 4

abbrev pub decreases-walk_operand : goal.decreases-walk_operand
decreases-walk_operand l = 6 * tree_size (term_of l.operand.now) + 2

abbrev pub decreases-walk_ascribe : goal.decreases-walk_ascribe
decreases-walk_ascribe l = 6 * tree_size (term_of l.term.now.operand) + 2

abbrev pub decreases-walk_record : goal.decreases-walk_record
decreases-walk_record l = 6 * tree_sizes (fields_of l.fields.now) + 4
