use Rattle.std.proofs.Common.{arith}
use Rattle.lam_rules.proofs.RuleForms.{num_rule, no_num}
use Rattle.lam_rules.proofs.typing.by_num.Goals as goal

pub returns-then-not-is_empty : goal.returns-then-not-is_empty
returns-then-not-is_empty c = grind (arith, num_rule)

pub returns-in_default : goal.returns-in_default
returns-in_default c = grind (arith, no_num)

pub returns : goal.returns
returns c = grind (arith, num_rule)
