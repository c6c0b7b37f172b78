use Rattle.std.proofs.Common.{arith}
use Rattle.lam_rules.proofs.RuleForms.{false_rule, no_false}
use Rattle.lam_rules.proofs.typing.by_false.Goals as goal

pub returns-then-not-is_empty : goal.returns-then-not-is_empty
returns-then-not-is_empty c = grind (arith, false_rule)

pub returns-in_default : goal.returns-in_default
returns-in_default c = grind (arith, no_false)

pub returns : goal.returns
returns c = grind (arith, false_rule)
