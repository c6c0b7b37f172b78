use Rattle.std.proofs.Common.{◌≡◌, ◌+◌, ◌*◌, ◌++◌, take, drop}
use Rattle.lam_rules.specs.Types.{joined}
use Rattle.lam_rules.specs.Numbers.{Keeps}
use Rattle.lam_syntax.specs.Trees.{no_type_fields}
use Rattle.lam_syntax.specs.Views.{type_of, type_fields_of}
use Rattle.lam_scope.specs.Expansions.{both, expansion_of_fields, field_faults}
use Rattle.lam_scope.specs.NumberedNames.{abbreviations_over}
use Rattle.lam_scope.specs.inner.Interned.{items_in, given_over, GivenStand}
use Rattle.lam_scope.proofs.TreeSizes.{type_size, type_sizes}
use Rattle.lam_scope.proofs.interning_types.+types.Given as goal

abbrev pub invariant-intern_fields-loop-i : goal.invariant-intern_fields-loop-i
invariant-intern_fields-loop-i l = record {
  keeps : Keeps l.initial.table l.table;
  stand : GivenStand l.table (items_in l.items);
  numbers : both joined (given_over l.table (items_in l.items)) (expansion_of_fields (abbreviations_over l.initial.table l.seen) (type_fields_of (drop l.i l.fields)))
      ≡ expansion_of_fields (abbreviations_over l.initial.table l.seen) (type_fields_of l.fields);
  faults : l.interning.faults.items ++ field_faults (abbreviations_over l.initial.table l.seen) (type_fields_of (take l.i l.fields)) (type_fields_of (drop l.i l.fields))
      ≡ l.initial.interning.faults.items ++ field_faults (abbreviations_over l.initial.table l.seen) no_type_fields (type_fields_of l.fields);
}

abbrev pub decreases-intern_type : goal.decreases-intern_type
decreases-intern_type l = 4 * type_size (type_of l.ty.now)

abbrev pub decreases-intern_arrow : goal.decreases-intern_arrow
decreases-intern_arrow l = 4 * (type_size (type_of l.arrow.now.parameter) + type_size (type_of l.arrow.now.outcome)) + 2

abbrev pub decreases-intern_record : goal.decreases-intern_record
decreases-intern_record l = 4 * type_sizes (type_fields_of l.fields.now) + 2

abbrev pub decreases-intern_fields : goal.decreases-intern_fields
decreases-intern_fields l = 4 * type_sizes (type_fields_of l.fields.now) + 1
