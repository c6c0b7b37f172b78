use Rattle.std.proofs.Common.{arith}
use Rattle.lam_rules.proofs.RuleForms.{true_rule, no_true}
use Rattle.lam_rules.proofs.typing.by_true.Goals as goal

pub returns-then-not-is_empty : goal.returns-then-not-is_empty
returns-then-not-is_empty c = grind (arith, true_rule)

pub returns-in_default : goal.returns-in_default
returns-in_default c = grind (arith, no_true)

pub returns : goal.returns
returns c = grind (arith, true_rule)
