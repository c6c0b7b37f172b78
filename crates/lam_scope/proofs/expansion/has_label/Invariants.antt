use Rattle.std.proofs.Common.{◌≡◌, drop}
use Rattle.lam_syntax.specs.Views.{type_fields_of}
use Rattle.lam_scope.specs.Expansions.{has_label}
use Rattle.lam_scope.proofs.expansion.has_label.Given as goal

abbrev pub invariant-loop-i : goal.invariant-loop-i
invariant-loop-i l = has_label l.label (type_fields_of l.fields) ≡ has_label l.label (type_fields_of (drop l.i l.fields))
