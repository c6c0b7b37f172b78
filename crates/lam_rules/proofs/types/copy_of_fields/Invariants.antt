use Rattle.std.proofs.Common.{◌≡◌, drop}
use Rattle.lam_rules.specs.Types.{joined}
use Rattle.lam_rules.specs.TypeViews.{fields_of}
use Rattle.lam_rules.proofs.types.copy_of_fields.Given as goal

abbrev pub invariant-loop-i : goal.invariant-loop-i
invariant-loop-i l = joined (fields_of l.copies.items) (fields_of (drop l.i l.fields)) ≡ fields_of l.fields
