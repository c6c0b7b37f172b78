use Rattle.std.proofs.Common.{codes}
use Rattle.lam_rules.proofs.TypeShapes.{typ_of-Bool, typ_of-Nat, typ_of-Unit, typ_of-Top}
use Rattle.lam_check.proofs.PlainTypes.{cut}
use Rattle.lam_check.proofs.plain_types.word_at.Goals as goal

pub returns-in-Some-clause-bool : goal.returns-in-Some-clause-bool
returns-in-Some-clause-bool c = λ rest is. (typ_of-Bool, cut (codes "Bool") _ _ rest c.in-Some.ensures.some is)

pub returns-in-Some-behind-clause-nat : goal.returns-in-Some-behind-clause-nat
returns-in-Some-behind-clause-nat c = λ rest is. (typ_of-Nat, cut (codes "Nat") _ _ rest c.in-Some-behind.ensures.some is)

pub returns-in-Some-behind-2-clause-unit : goal.returns-in-Some-behind-2-clause-unit
returns-in-Some-behind-2-clause-unit c = λ rest is. (typ_of-Unit, cut (codes "Unit") _ _ rest c.in-Some-behind-2.ensures.some is)

pub returns-in-Some-behind-3-clause-top : goal.returns-in-Some-behind-3-clause-top
returns-in-Some-behind-3-clause-top c = λ rest is. (typ_of-Top, cut (codes "Top") _ _ rest c.in-Some-behind-3.ensures.some is)
