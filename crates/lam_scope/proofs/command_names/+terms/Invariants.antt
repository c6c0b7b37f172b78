use Rattle.std.proofs.Common.{◌≡◌, drop}
use Rattle.lam_syntax.specs.Views.{fields_of}
use Rattle.lam_scope.specs.FreeNames.{free_in_fields, free_type_names_in_types}
use Rattle.lam_scope.specs.Nameless.{written_in_fields}
use Rattle.lam_scope.specs.inner.FoundNames.{found_after, free_under}
use Rattle.lam_scope.proofs.command_names.+terms.Given as goal

abbrev pub invariant-find_in_fields-loop-i : goal.invariant-find_in_fields-loop-i
invariant-find_in_fields-loop-i l = record {
  names : found_after l.finding.names (free_under l.finding.bound (free_in_fields (fields_of (drop l.i l.fields))))
      ≡ found_after l.initial.finding.names (free_under l.initial.finding.bound (free_in_fields (fields_of l.fields)));
  type_names : found_after l.finding.type_names (free_type_names_in_types (written_in_fields (fields_of (drop l.i l.fields))))
      ≡ found_after l.initial.finding.type_names (free_type_names_in_types (written_in_fields (fields_of l.fields)));
  bound : l.finding.bound ≡ l.initial.finding.bound;
}
