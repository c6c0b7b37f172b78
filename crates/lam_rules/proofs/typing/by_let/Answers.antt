use Rattle.std.proofs.Common.{arith}
use Rattle.lam_rules.proofs.RuleForms.{no_let, counts_let}
use Rattle.lam_rules.proofs.RulesHere.{here_let}
use Rattle.lam_rules.proofs.typing.by_let.Goals as goal

pub returns-in_default : goal.returns-in_default
returns-in_default c = grind (arith, no_let)

pub returns-in_default-premises : goal.returns-in_default-premises
returns-in_default-premises c = grind (arith, counts_let)

pub returns-in_default-premises-2 : goal.returns-in_default-premises-2
returns-in_default-premises-2 c = grind (arith, counts_let)

pub returns : goal.returns
returns c = λ g.
    let here = here_let _ _ c.in-Let.is _ _ c.in-len2.len_at_least c.in-len2.len_below c.second-item.is g _ in
    (λ r. here.1 (c.same.ensures.0 r), λ h. c.same.ensures.1 (here.0 h))
