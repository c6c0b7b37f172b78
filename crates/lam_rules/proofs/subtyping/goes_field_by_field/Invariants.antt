use Rattle.std.proofs.Common.{◌≡◌, ◌↔◌, drop, length}
use Rattle.lam_rules.specs.TypeViews.{fields_of}
use Rattle.lam_rules.specs.SubViews.{claims_of}
use Rattle.lam_rules.specs.Subtyping.{GoesFieldByField}
use Rattle.lam_rules.proofs.subtyping.goes_field_by_field.Given as goal

abbrev pub invariant-loop-i : goal.invariant-loop-i
invariant-loop-i l =
    (length l.lower ≡ length l.upper)
    × (length l.lower ≡ length l.premises)
    × (GoesFieldByField (fields_of l.lower) (fields_of l.upper) (claims_of l.premises)
    ↔ GoesFieldByField (fields_of (drop l.i l.lower)) (fields_of (drop l.i l.upper)) (claims_of (drop l.i l.premises)))
