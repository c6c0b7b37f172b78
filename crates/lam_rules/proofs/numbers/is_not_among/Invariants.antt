use Rattle.std.proofs.Common.{◌↔◌, drop}
use Rattle.lam_rules.specs.Numbers.{IsNotAmong}
use Rattle.lam_rules.proofs.numbers.is_not_among.Given as goal

abbrev pub invariant-loop-field : goal.invariant-loop-field
invariant-loop-field l = IsNotAmong l.label l.fields ↔ IsNotAmong l.label (drop l.field-index l.fields)
