use Rattle.std.proofs.Common.{◌≡◌, drop}
use Rattle.lam_syntax.specs.Views.{type_fields_of}
use Rattle.lam_scope.specs.FreeNames.{free_type_names_in_fields}
use Rattle.lam_scope.specs.inner.FoundNames.{found_after}
use Rattle.lam_scope.proofs.command_names.+types.Given as goal

abbrev pub invariant-find_in_type_fields-loop-i : goal.invariant-find_in_type_fields-loop-i
invariant-find_in_type_fields-loop-i l =
    found_after l.found (free_type_names_in_fields (type_fields_of (drop l.i l.fields))) ≡ found_after l.initial.found (free_type_names_in_fields (type_fields_of l.fields))
