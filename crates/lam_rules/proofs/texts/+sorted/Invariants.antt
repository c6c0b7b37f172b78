use Rattle.std.proofs.Common.{◌≡◌, drop}
use Rattle.lam_rules.specs.Types.{joined}
use Rattle.lam_rules.specs.TypeViews.{fields_of}
use Rattle.lam_rules.proofs.SortedForms.{sorted_inside}
use Rattle.lam_rules.proofs.texts.+sorted.Given as goal

abbrev pub invariant-sorted_fields_of-loop-i : goal.invariant-sorted_fields_of-loop-i
invariant-sorted_fields_of-loop-i l =
    joined (fields_of l.made.items) (sorted_inside (fields_of (drop l.i l.fields))) ≡ sorted_inside (fields_of l.fields)
