use Rattle.std.proofs.Common.{◌≡◌, ◌↔◌, List, drop}
use Rattle.lam_rules.specs.Types.{Typ, IsAbsent}
use Rattle.lam_rules.specs.Numbers.{fields_over, first_under}
use Rattle.lam_rules.proofs.numbers.number_under.Given as goal

abbrev pub invariant-loop-field : goal.invariant-loop-field
invariant-loop-field l = record {
  absent : (ts : List Typ) → (IsAbsent l.label (fields_over ts l.fields) ↔ IsAbsent l.label (fields_over ts (drop l.field-index l.fields)));
  first : first_under l.label l.fields ≡ first_under l.label (drop l.field-index l.fields);
}
