use Rattle.std.proofs.Common.{◌∙◌, sym, refl, arith}
use Rattle.lam_rules.proofs.TypeShapes.{typ_of-Bool}
use Rattle.lam_rules.proofs.RuleForms.{no_if, counts_if}
use Rattle.lam_rules.proofs.RulesHere.{here_if}
use Rattle.lam_rules.proofs.typing.by_if.Goals as goal

pub returns-in_default : goal.returns-in_default
returns-in_default c = grind (arith, no_if)

pub returns-in_default-premises : goal.returns-in_default-premises
returns-in_default-premises c = grind (arith, counts_if)

pub returns-in_default-premises-2 : goal.returns-in_default-premises-2
returns-in_default-premises-2 c = grind (arith, counts_if)

pub returns-then-not-same : goal.returns-then-not-same
returns-then-not-same c = λ g.
    let here = here_if _ _ c.in-If.is _ _ _ _ c.in-len3.len_at_least c.in-len3.len_below c.first-item.is c.second-item.is c.third-item.is g _ in
    (λ no. cc, λ b. c.if-not-same.ensures.1 ((here.0 b).0 ∙ sym typ_of-Bool))

pub returns-then-not-same-2 : goal.returns-then-not-same-2
returns-then-not-same-2 c = λ g.
    let here = here_if _ _ c.in-If.is _ _ _ _ c.in-len3.len_at_least c.in-len3.len_below c.first-item.is c.second-item.is c.third-item.is g _ in
    (λ no. cc, λ b. c.if-not-same-2.ensures.1 (here.0 b).1)

pub returns : goal.returns
returns c = λ g.
    let here = here_if _ _ c.in-If.is _ _ _ _ c.in-len3.len_at_least c.in-len3.len_below c.first-item.is c.second-item.is c.third-item.is g _ in (
      λ r. here.1 (c.if-not-same.ensures.0 refl ∙ typ_of-Bool, c.if-not-same-2.ensures.0 refl, c.same-3.ensures.0 r),
      λ b. c.same-3.ensures.1 (here.0 b).2,
    )
