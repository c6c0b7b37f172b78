use Rattle.std.proofs.Common.{arith}
use Rattle.lam_rules.proofs.RuleForms.{no_abs, counts_abs, abs_rule}
use Rattle.lam_rules.proofs.typing.by_abs.Goals as goal

pub returns-in_default : goal.returns-in_default
returns-in_default c = grind (arith, no_abs)

pub returns-in_default-written : goal.returns-in_default-written
returns-in_default-written c = grind (arith, abs_rule)

pub returns-in_default-premises : goal.returns-in_default-premises
returns-in_default-premises c = grind (arith, counts_abs)

pub returns-in_default-premises-2 : goal.returns-in_default-premises-2
returns-in_default-premises-2 c = grind (arith, counts_abs)

pub returns-in_default-ty : goal.returns-in_default-ty
returns-in_default-ty c = grind (arith, abs_rule)

pub returns-then-not-same : goal.returns-then-not-same
returns-then-not-same c = grind (arith, abs_rule)

pub returns : goal.returns
returns c = grind (arith, abs_rule)
