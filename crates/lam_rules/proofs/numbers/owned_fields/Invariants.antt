use Rattle.std.proofs.Common.{take}
use Rattle.lam_rules.specs.Entries.{AreCopies}
use Rattle.lam_rules.proofs.numbers.owned_fields.Given as goal

abbrev pub invariant-loop-i : goal.invariant-loop-i
invariant-loop-i l = AreCopies l.items.items (take l.i l.fields)
