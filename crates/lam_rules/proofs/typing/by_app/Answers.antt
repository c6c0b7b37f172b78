use Rattle.std.proofs.Common.{arith}
use Rattle.lam_rules.specs.TypeViews.{typ_of}
use Rattle.lam_rules.proofs.TypeShapes.{typ_of-Arrow, no_arrow}
use Rattle.lam_rules.proofs.RuleForms.{no_app, counts_app}
use Rattle.lam_rules.proofs.RulesHere.{here_app}
use Rattle.lam_rules.proofs.typing.by_app.Goals as goal

pub returns-in_default : goal.returns-in_default
returns-in_default c = grind (arith, no_app)

pub returns-in_default-premises : goal.returns-in_default-premises
returns-in_default-premises c = grind (arith, counts_app)

pub returns-in_default-premises-2 : goal.returns-in_default-premises-2
returns-in_default-premises-2 c = grind (arith, counts_app)

pub returns-in_default-ty : goal.returns-in_default-ty
returns-in_default-ty c = λ g.
    let here = here_app _ _ c.in-App.is _ _ _ c.in-len2.len_at_least c.in-len2.len_below c.first-item.is c.second-item.is g (typ_of c.args.ty.now) in
    grind (arith, here, no_arrow)

pub returns-then-not-same : goal.returns-then-not-same
returns-then-not-same c = λ g.
    let here = here_app _ _ c.in-App.is _ _ _ c.in-len2.len_at_least c.in-len2.len_below c.first-item.is c.second-item.is g (typ_of c.args.ty.now) in
    grind (arith, here, typ_of-Arrow)

pub returns : goal.returns
returns c = λ g.
    let here = here_app _ _ c.in-App.is _ _ _ c.in-len2.len_at_least c.in-len2.len_below c.first-item.is c.second-item.is g (typ_of c.args.ty.now) in
    grind (arith, here, typ_of-Arrow)
