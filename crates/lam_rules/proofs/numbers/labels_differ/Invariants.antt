use Rattle.std.proofs.Common.{◌↔◌, drop}
use Rattle.lam_rules.specs.Numbers.{HaveDistinctLabels}
use Rattle.lam_rules.proofs.numbers.labels_differ.Given as goal

abbrev pub invariant-loop-i : goal.invariant-loop-i
invariant-loop-i l = HaveDistinctLabels l.fields ↔ HaveDistinctLabels (drop l.i l.fields)
