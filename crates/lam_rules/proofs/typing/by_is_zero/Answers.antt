use Rattle.std.proofs.Common.{arith}
use Rattle.lam_rules.proofs.RuleForms.{no_iszero, counts_iszero, is_zero_rule}
use Rattle.lam_rules.proofs.typing.by_is_zero.Goals as goal

pub returns-in_default : goal.returns-in_default
returns-in_default c = grind (arith, no_iszero)

pub returns-in_default-premises : goal.returns-in_default-premises
returns-in_default-premises c = grind (arith, counts_iszero)

pub returns-in_default-premises-2 : goal.returns-in_default-premises-2
returns-in_default-premises-2 c = grind (arith, counts_iszero)

pub returns-then-not-same : goal.returns-then-not-same
returns-then-not-same c = grind (arith, is_zero_rule)

pub returns : goal.returns
returns c = grind (arith, is_zero_rule)
