use Rattle.lam_rules.specs.TypingViews.{entries_of}
use Rattle.lam_rules.proofs.typing.by_rule.Goals as goal

pub returns-in-True : goal.returns-in-True
returns-in-True c = rw c.in-True.is (c.by_true.ensures (entries_of c.args.entries.now))

pub returns-in-False : goal.returns-in-False
returns-in-False c = rw c.in-False.is (c.by_false.ensures (entries_of c.args.entries.now))

pub returns-in-If : goal.returns-in-If
returns-in-If c = rw c.in-If.is (c.by_if.ensures (entries_of c.args.entries.now))

pub returns-in-Num : goal.returns-in-Num
returns-in-Num c = rw c.in-Num.is (c.by_num.ensures (entries_of c.args.entries.now))

pub returns-in-Succ : goal.returns-in-Succ
returns-in-Succ c = rw c.in-Succ.is (c.by_succ.ensures (entries_of c.args.entries.now))

pub returns-in-Pred : goal.returns-in-Pred
returns-in-Pred c = rw c.in-Pred.is (c.by_pred.ensures (entries_of c.args.entries.now))

pub returns-in-IsZero : goal.returns-in-IsZero
returns-in-IsZero c = rw c.in-IsZero.is (c.by_is_zero.ensures (entries_of c.args.entries.now))

pub returns-in-Var : goal.returns-in-Var
returns-in-Var c = rw c.in-Var.is c.by_var.ensures

pub returns-in-Abs : goal.returns-in-Abs
returns-in-Abs c = rw c.in-Abs.is (c.by_abs.ensures (entries_of c.args.entries.now))

pub returns-in-App : goal.returns-in-App
returns-in-App c = rw c.in-App.is (c.by_app.ensures (entries_of c.args.entries.now))

pub returns-in-Unit : goal.returns-in-Unit
returns-in-Unit c = rw c.in-Unit.is (c.by_unit.ensures (entries_of c.args.entries.now))

pub returns-in-Ascribe : goal.returns-in-Ascribe
returns-in-Ascribe c = rw c.in-Ascribe.is (c.by_ascribe.ensures (entries_of c.args.entries.now))

pub returns-in-Let : goal.returns-in-Let
returns-in-Let c = rw c.in-Let.is (c.by_let.ensures (entries_of c.args.entries.now))

pub returns-in-Rcd : goal.returns-in-Rcd
returns-in-Rcd c = rw c.in-Rcd.is (c.by_rcd.ensures (entries_of c.args.entries.now))

pub returns-in-Proj : goal.returns-in-Proj
returns-in-Proj c = rw c.in-Proj.is (c.by_proj.ensures (entries_of c.args.entries.now))

pub returns-in-Fix : goal.returns-in-Fix
returns-in-Fix c = rw c.in-Fix.is (c.by_fix.ensures (entries_of c.args.entries.now))
