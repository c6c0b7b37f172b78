use Rattle.std.proofs.Common.{◌↔◌, ◌≤◌, drop, length}
use Rattle.lam_rules.specs.TypeViews.{fields_of}
use Rattle.lam_rules.specs.Subtyping.{BeginsWith}
use Rattle.lam_rules.proofs.subtyping.begins_with.Given as goal

abbrev pub invariant-loop-i : goal.invariant-loop-i
invariant-loop-i l =
    (length l.first_fields ≤ length l.fields)
    × (BeginsWith (fields_of l.fields) (fields_of l.first_fields)
    ↔ BeginsWith (fields_of (drop l.i l.fields)) (fields_of (drop l.i l.first_fields)))
