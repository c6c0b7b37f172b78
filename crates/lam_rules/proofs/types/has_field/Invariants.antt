use Rattle.std.proofs.Common.{◌↔◌, drop}
use Rattle.lam_rules.specs.Types.{Has}
use Rattle.lam_rules.specs.TypeViews.{typ_of, fields_of}
use Rattle.lam_rules.proofs.types.has_field.Given as goal

abbrev pub invariant-loop-field : goal.invariant-loop-field
invariant-loop-field l = Has l.label (typ_of l.ty) (fields_of l.fields) ↔ Has l.label (typ_of l.ty) (fields_of (drop l.field-index l.fields))
