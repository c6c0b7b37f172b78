use Rattle.std.proofs.Common.{◌≡◌, drop}
use Rattle.lam_rules.specs.Types.{Typ, Has, IsAbsent}
use Rattle.lam_rules.specs.Numbers.{first_under}
use Rattle.lam_rules.specs.TypeViews.{fields_of}
use Rattle.lam_sub.proofs.fields.first_type.Given as goal

abbrev pub invariant-loop-field : goal.invariant-loop-field
invariant-loop-field l = record {
  has : (t : Typ) → Has l.label t (fields_of (drop l.field-index l.fields)) → Has l.label t (fields_of l.fields);
  absent : IsAbsent l.label (fields_of (drop l.field-index l.fields)) → IsAbsent l.label (fields_of l.fields);
  first : first_under l.label l.fields ≡ first_under l.label (drop l.field-index l.fields);
}
