use Rattle.std.proofs.Common.{◌≡◌, ◌+◌, ◌≤◌, min, drop}
use Rattle.lam_rules.specs.Types.{nodes_in}
use Rattle.lam_rules.specs.TypeViews.{fields_of}
use Rattle.lam_rules.proofs.types.+size.Given as goal

abbrev pub invariant-size_of_fields-loop-i : goal.invariant-size_of_fields-loop-i
invariant-size_of_fields-loop-i l =
    (min (nodes_in (fields_of l.fields)) 4097 ≡ min (l.total + nodes_in (fields_of (drop l.i l.fields))) 4097)
    × (l.total ≤ 4097)
