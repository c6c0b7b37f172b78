use Rattle.std.proofs.Common.{◌≡◌, ◌↔◌, drop, length}
use Rattle.lam_rules.specs.TypeViews.{fields_of}
use Rattle.lam_rules.proofs.types.+same.Given as goal

abbrev pub invariant-same_fields-loop-i : goal.invariant-same_fields-loop-i
invariant-same_fields-loop-i l =
    (length l.left ≡ length l.right)
    × ((fields_of l.left ≡ fields_of l.right) ↔ (fields_of (drop l.i l.left) ≡ fields_of (drop l.i l.right)))
