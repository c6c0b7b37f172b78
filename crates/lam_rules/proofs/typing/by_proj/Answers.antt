use Rattle.std.proofs.Common.{arith}
use Rattle.lam_rules.proofs.RuleForms.{no_proj, counts_proj, proj_rule}
use Rattle.lam_rules.proofs.typing.by_proj.Goals as goal

pub returns-in_default : goal.returns-in_default
returns-in_default c = grind (arith, no_proj)

pub returns-in_default-premises : goal.returns-in_default-premises
returns-in_default-premises c = grind (arith, counts_proj)

pub returns-in_default-premises-2 : goal.returns-in_default-premises-2
returns-in_default-premises-2 c = grind (arith, counts_proj)

pub returns-in_default-ty : goal.returns-in_default-ty
returns-in_default-ty c = grind (arith, proj_rule)

pub returns : goal.returns
returns c = grind (arith, proj_rule)
