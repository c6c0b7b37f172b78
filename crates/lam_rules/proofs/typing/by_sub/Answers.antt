use Rattle.std.proofs.Common.{refl, arith}
use Rattle.lam_rules.proofs.RuleForms.{counts_sub}
use Rattle.lam_rules.proofs.RulesHere.{here_sub}
use Rattle.lam_rules.proofs.typing.by_sub.Goals as goal

pub returns-in_default : goal.returns-in_default
returns-in_default c = grind (arith, counts_sub)

pub returns-in_default-2 : goal.returns-in_default-2
returns-in_default-2 c = grind (arith, counts_sub)

pub returns-then-not-same : goal.returns-then-not-same
returns-then-not-same c = λ g e.
    let here = here_sub _ _ c.in-len1.len_at_least c.in-len1.len_below c.premise-item.is c.args.sub.now g e _ in
    (λ no. cc, λ b. c.if-not-same.ensures.1 (here.0 b).0)

pub returns : goal.returns
returns c = λ g e.
    let here = here_sub _ _ c.in-len1.len_at_least c.in-len1.len_below c.premise-item.is c.args.sub.now g e _ in (
      λ r. here.1 (c.if-not-same.ensures.0 refl, c.same-2.ensures.0 r),
      λ b. c.same-2.ensures.1 (here.0 b).1,
    )
