use Rattle.std.proofs.Common.{◌≡◌, ◌↔◌, drop, length}
use Rattle.lam_rules.specs.TypeViews.{fields_of}
use Rattle.lam_sub.specs.inner.Unchanged.{HaveSameLabels}
use Rattle.lam_sub.proofs.unchanged.have_same_labels.Given as goal

abbrev pub invariant-loop-i : goal.invariant-loop-i
invariant-loop-i l =
    (length l.left ≡ length l.right)
    × (HaveSameLabels (fields_of l.left) (fields_of l.right) ↔ HaveSameLabels (fields_of (drop l.i l.left)) (fields_of (drop l.i l.right)))
