use Rattle.lam_rules.specs.Numbers.{Stands, Keeps}
use Rattle.lam_tests.proofs.table.doubled.Given as goal

abbrev pub invariant-loop : goal.invariant-loop
invariant-loop l = Keeps l.fn.table l.table × Stands l.table l.number
