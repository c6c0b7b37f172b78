use Rattle.std.proofs.Common.{take}
use Rattle.lam_rules.specs.Entries.{AreSame}
use Rattle.lam_rules.proofs.numbers.copy_of_numbers.Given as goal

abbrev pub invariant-loop-i : goal.invariant-loop-i
invariant-loop-i l = AreSame l.copies.items (take l.i l.fields)
