use Rattle.std.proofs.Common.{◌≡◌, drop}
use Rattle.lam_rules.specs.Types.{joined}
use Rattle.lam_rules.specs.TypeViews.{fields_of}
use Rattle.lam_sub.specs.OtherFields.{other_fields}
use Rattle.lam_sub.proofs.fields.append_others.Given as goal

abbrev pub invariant-loop-i : goal.invariant-loop-i
invariant-loop-i l =
    joined (fields_of l.fields.items) (other_fields (fields_of (drop l.i l.more)) (fields_of l.known))
    ≡ joined (fields_of l.initial.fields.items) (other_fields (fields_of l.more) (fields_of l.known))
