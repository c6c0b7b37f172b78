use Rattle.std.proofs.Common.{◌≡◌, ◌++◌, take, drop}
use Rattle.lam_syntax.specs.Trees.{no_type_fields}
use Rattle.lam_syntax.specs.Views.{type_fields_of}
use Rattle.lam_scope.specs.Expansions.{field_faults}
use Rattle.lam_scope.specs.Views.{abbreviations_of}
use Rattle.lam_scope.proofs.expansion.+faults.Given as goal

abbrev pub invariant-collect_field_faults-loop-i : goal.invariant-collect_field_faults-loop-i
invariant-collect_field_faults-loop-i l =
    l.faults.items ++ field_faults (abbreviations_of l.seen) (type_fields_of (take l.i l.fields)) (type_fields_of (drop l.i l.fields))
    ≡ l.initial.faults.items ++ field_faults (abbreviations_of l.seen) no_type_fields (type_fields_of l.fields)
