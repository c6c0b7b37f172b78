use Rattle.std.proofs.Common.{arith}
use Rattle.lam_rules.proofs.RuleForms.{unit_rule, no_unit}
use Rattle.lam_rules.proofs.typing.by_unit.Goals as goal

pub returns-then-not-is_empty : goal.returns-then-not-is_empty
returns-then-not-is_empty c = grind (arith, unit_rule)

pub returns-in_default : goal.returns-in_default
returns-in_default c = grind (arith, no_unit)

pub returns : goal.returns
returns c = grind (arith, unit_rule)
