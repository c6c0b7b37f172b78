use Rattle.std.proofs.Common.{subst, sym, arith}
use Rattle.lam_rules.specs.Numbers.{AreEarlier, IsOver}
use Rattle.lam_rules.proofs.TableFields.{some_below, found_fields}
use Rattle.lam_rules.proofs.table.TyTable.field.Goals as goal

pub returns-in-Record-clause-earlier : goal.returns-in-Record-clause-earlier
returns-in-Record-clause-earlier c =
    some_below _ _ _ (subst (AreEarlier c.args.number.index) (sym c.deref.ensures.value) (subst (IsOver c.args.number.index) c.in-Record.is c.shape.ensures.earlier))
    c.number_under.ensures.below

pub returns-in-Record-clause-none : goal.returns-in-Record-clause-none
returns-in-Record-clause-none c = grind (arith, found_fields)
