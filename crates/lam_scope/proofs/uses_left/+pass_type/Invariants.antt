use Rattle.std.proofs.Common.{◌≡◌, drop}
use Rattle.lam_syntax.specs.Views.{type_fields_of}
use Rattle.lam_scope.specs.Indexed.{past_type_fields}
use Rattle.lam_scope.proofs.uses_left.+pass_type.Given as goal

abbrev pub invariant-pass_type_fields-loop-i : goal.invariant-pass_type_fields-loop-i
invariant-pass_type_fields-loop-i l = past_type_fields (type_fields_of (drop l.i l.fields)) l.uses ≡ past_type_fields (type_fields_of l.fields) l.initial.uses
