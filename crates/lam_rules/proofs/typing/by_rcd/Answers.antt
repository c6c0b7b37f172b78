use Rattle.std.proofs.Common.{arith}
use Rattle.lam_rules.proofs.RuleForms.{no_rcd, rcd_rule}
use Rattle.lam_rules.proofs.typing.by_rcd.Goals as goal

pub returns-in_default : goal.returns-in_default
returns-in_default c = grind (arith, no_rcd)

pub returns-in_default-ty : goal.returns-in_default-ty
returns-in_default-ty c = grind (arith, rcd_rule)

pub returns : goal.returns
returns c = grind (arith, rcd_rule)
