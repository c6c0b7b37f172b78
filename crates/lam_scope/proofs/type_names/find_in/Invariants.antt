use Rattle.std.proofs.Common.{◌≡◌, drop}
use Rattle.lam_scope.specs.NumberedNames.{numbered_names_of, number_named}
use Rattle.lam_scope.proofs.type_names.find_in.Given as goal

abbrev pub invariant-loop-i : goal.invariant-loop-i
invariant-loop-i l = number_named l.name (numbered_names_of l.stack) ≡ number_named l.name (drop l.i (numbered_names_of l.stack))
