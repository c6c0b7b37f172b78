use Rattle.std.proofs.Common.{◌↔◌, ◌≤◌, drop}
use Rattle.lam_rules.specs.ReadableLabels.{HaveReadableLabels}
use Rattle.lam_rules.specs.TypeViews.{fields_of}
use Rattle.lam_check.specs.Readable.{depth_in}
use Rattle.lam_check.proofs.plain_types.+readable.Given as goal

abbrev pub invariant-are_readable-loop-i : goal.invariant-are_readable-loop-i
invariant-are_readable-loop-i l =
    (HaveReadableLabels (fields_of l.fields) × (depth_in (fields_of l.fields) ≤ l.levels))
    ↔ (HaveReadableLabels (fields_of (drop l.i l.fields)) × (depth_in (fields_of (drop l.i l.fields)) ≤ l.levels))
