use Rattle.std.proofs.Common.{◌∙◌, ap, sym, slice_get, arith}
use Rattle.lam_rules.specs.TermViews.{lent_of, term_of}
use Rattle.lam_rules.specs.TypingSteps.{parts_in}
use Rattle.lam_rules.proofs.TermShapes.{term_of-If, term_of-Succ, term_of-Pred, term_of-IsZero, term_of-Abs, term_of-App, term_of-Ascribe, term_of-Let, term_of-Record, term_of-Proj, term_of-Fix, term_of-True, term_of-False, term_of-Num, term_of-Var, term_of-Free, term_of-Unit}
use Rattle.lam_rules.proofs.parts.immediate_part.Goals as goal

pub returns-in-If : goal.returns-in-If
returns-in-If c = grind (arith, term_of-If)

pub returns-in-Succ : goal.returns-in-Succ
returns-in-Succ c = grind (arith, term_of-Succ)

pub returns-in-Pred : goal.returns-in-Pred
returns-in-Pred c = grind (arith, term_of-Pred)

pub returns-in-IsZero : goal.returns-in-IsZero
returns-in-IsZero c = grind (arith, term_of-IsZero)

pub returns-in-Abs : goal.returns-in-Abs
returns-in-Abs c = grind (arith, term_of-Abs)

pub returns-in-App : goal.returns-in-App
returns-in-App c = grind (arith, term_of-App)

pub returns-in-Ascribe : goal.returns-in-Ascribe
returns-in-Ascribe c = grind (arith, term_of-Ascribe)

pub returns-in-Let : goal.returns-in-Let
returns-in-Let c = λ g. (rw (c.deref-in-Let.ensures, c.deref-in-Let-2.ensures) at c.of_let.ensures g) ∙ ap (λ t. slice_get (parts_in g t (lent_of c.args.first)) c.args.k) (sym (ap term_of c.in-Let.is ∙ term_of-Let _))

pub returns-in-Record : goal.returns-in-Record
returns-in-Record c = grind (arith, term_of-Record)

pub returns-in-Proj : goal.returns-in-Proj
returns-in-Proj c = grind (arith, term_of-Proj)

pub returns-in-Fix : goal.returns-in-Fix
returns-in-Fix c = grind (arith, term_of-Fix)

pub returns-in-True : goal.returns-in-True
returns-in-True c = grind (arith, term_of-True)

pub returns-in-False : goal.returns-in-False
returns-in-False c = grind (arith, term_of-False)

pub returns-in-Num : goal.returns-in-Num
returns-in-Num c = grind (arith, term_of-Num)

pub returns-in-Var : goal.returns-in-Var
returns-in-Var c = grind (arith, term_of-Var)

pub returns-in-Free : goal.returns-in-Free
returns-in-Free c = grind (arith, term_of-Free)

pub returns-in-Unit : goal.returns-in-Unit
returns-in-Unit c = grind (arith, term_of-Unit)
