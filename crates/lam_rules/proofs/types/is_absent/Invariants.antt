use Rattle.std.proofs.Common.{◌↔◌, drop}
use Rattle.lam_rules.specs.Types.{IsAbsent}
use Rattle.lam_rules.specs.TypeViews.{fields_of}
use Rattle.lam_rules.proofs.types.is_absent.Given as goal

abbrev pub invariant-loop-field : goal.invariant-loop-field
invariant-loop-field l = IsAbsent l.label (fields_of l.fields) ↔ IsAbsent l.label (fields_of (drop l.field-index l.fields))
