use Rattle.std.proofs.Common.{arith}
use Rattle.lam_rules.proofs.RuleForms.{var_rule, no_var}
use Rattle.lam_rules.proofs.typing.by_var.Goals as goal

pub returns-then-not-is_empty : goal.returns-then-not-is_empty
returns-then-not-is_empty c = grind (arith, var_rule)

pub returns-in_default : goal.returns-in_default
returns-in_default c = grind (arith, no_var)

pub returns : goal.returns
returns c = grind (arith, var_rule)
