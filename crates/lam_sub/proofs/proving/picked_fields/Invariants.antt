use Rattle.std.proofs.Common.{◌≡◌, drop}
use Rattle.lam_rules.specs.Types.{joined}
use Rattle.lam_rules.specs.TypeViews.{fields_of}
use Rattle.lam_sub.specs.inner.Arranging.{picked}
use Rattle.lam_sub.proofs.proving.picked_fields.Given as goal

abbrev pub invariant-loop-i : goal.invariant-loop-i
invariant-loop-i l =
    joined (fields_of l.copies.items) (picked (fields_of l.fields) (fields_of (drop l.i l.asked)))
    ≡ picked (fields_of l.fields) (fields_of l.asked)
