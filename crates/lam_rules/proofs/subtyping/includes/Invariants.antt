use Rattle.std.proofs.Common.{◌↔◌, drop}
use Rattle.lam_rules.specs.Types.{Includes}
use Rattle.lam_rules.specs.TypeViews.{fields_of}
use Rattle.lam_rules.proofs.subtyping.includes.Given as goal

abbrev pub invariant-loop-field : goal.invariant-loop-field
invariant-loop-field l = Includes (fields_of l.fields) (fields_of l.others) ↔ Includes (fields_of (drop l.field-index l.fields)) (fields_of l.others)
