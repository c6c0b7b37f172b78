use Rattle.std.proofs.Common.{◌<◌, length, ap, sym, ◌∙◌, arith}
use Rattle.std.specs.Option.{option_map}
use Rattle.std.proofs.lemmas.Result.{IfOk-weaker}
use Rattle.lam_rules.specs.Terms.{ascribe}
use Rattle.lam_rules.specs.TermViews.{term_of, written_of}
use Rattle.lam_rules.proofs.TermShapes.{term_of-If, term_of-App, term_of-Proj, term_of-Ascribe, term_of-Fix}
use Rattle.lam_query.specs.Mismatches.{found}
use Rattle.lam_query.specs.Views.{mismatch_of}
use Rattle.lam_query.proofs.MismatchForms.{two_parts, three_parts, project_part, ascribe_part, fix_part, told_apply, told_if, told_project, told_ascribe, told_fix, operation_part, told_operation, told_nothing}
use Rattle.lam_query.proofs.mismatches.mismatch_of.Goals as goal

pub bounds-parts-0 : goal.bounds-parts-0
bounds-parts-0 c =
    let two = two_parts c.args.table.now (term_of c.args.term.now) c.args.parts.now c.requires.many _ _ (ap term_of c.in-App.is ∙ term_of-App c.in-App.field-0) in
    let inside : 0 < length c.args.parts.now = omega (arith, two) in
    inside

pub bounds-parts-1 : goal.bounds-parts-1
bounds-parts-1 c =
    let two = two_parts c.args.table.now (term_of c.args.term.now) c.args.parts.now c.requires.many _ _ (ap term_of c.in-App.is ∙ term_of-App c.in-App.field-0) in
    let inside : 1 < length c.args.parts.now = omega (arith, two) in
    inside

pub in_application-requires-clause-function : goal.in_application-requires-clause-function
in_application-requires-clause-function c =
    let two = two_parts c.args.table.now (term_of c.args.term.now) c.args.parts.now c.requires.many _ _ (ap term_of c.in-App.is ∙ term_of-App c.in-App.field-0) in
    c.requires.stand 0 _ (omega (arith, two))

pub in_application-requires-clause-argument : goal.in_application-requires-clause-argument
in_application-requires-clause-argument c =
    let two = two_parts c.args.table.now (term_of c.args.term.now) c.args.parts.now c.requires.many _ _ (ap term_of c.in-App.is ∙ term_of-App c.in-App.field-0) in
    c.requires.stand 1 _ (omega (arith, two))

pub returns-in_ok-in_application-in-App : goal.returns-in_ok-in_application-in-App
returns-in_ok-in_application-in-App c =
    told_apply c.args.table.now (term_of c.args.term.now) c.args.parts.now c.requires.many _ _ _ _ _ (ap term_of c.in-App.is ∙ term_of-App c.in-App.field-0)
    c.in_ok-in_application-in-App.ensures

pub bounds-parts-0-in-If : goal.bounds-parts-0-in-If
bounds-parts-0-in-If c =
    let three = three_parts c.args.table.now (term_of c.args.term.now) c.args.parts.now c.requires.many _ _ _ (ap term_of c.in-If.is ∙ term_of-If c.in-If.field-0) in
    let inside : 0 < length c.args.parts.now = omega (arith, three) in
    inside

pub below-requires : goal.below-requires
below-requires c =
    let three = three_parts c.args.table.now (term_of c.args.term.now) c.args.parts.now c.requires.many _ _ _ (ap term_of c.in-If.is ∙ term_of-If c.in-If.field-0) in
    c.requires.stand 0 _ (omega (arith, three))

pub returns-in_ok-below-in-If : goal.returns-in_ok-below-in-If
returns-in_ok-below-in-If c =
    told_if c.args.table.now (term_of c.args.term.now) c.args.parts.now c.requires.many _ _ _ _ _ (ap term_of c.in-If.is ∙ term_of-If c.in-If.field-0)
    c.in_ok-below-in-If.ensures

pub bounds-parts-0-in-Proj : goal.bounds-parts-0-in-Proj
bounds-parts-0-in-Proj c =
    let one = project_part c.args.table.now (term_of c.args.term.now) c.args.parts.now c.requires.many _ _ (ap term_of c.in-Proj.is ∙ term_of-Proj c.in-Proj.field-0) in
    let inside : 0 < length c.args.parts.now = omega (arith, one) in
    inside

pub text-requires : goal.text-requires
text-requires c =
    let one = project_part c.args.table.now (term_of c.args.term.now) c.args.parts.now c.requires.many _ _ (ap term_of c.in-Proj.is ∙ term_of-Proj c.in-Proj.field-0) in
    c.requires.stand 0 _ (omega (arith, one))

pub returns-in_ok-text-in-Proj : goal.returns-in_ok-text-in-Proj
returns-in_ok-text-in-Proj c =
    told_project c.args.table.now (term_of c.args.term.now) c.args.parts.now c.requires.many _ _ _ _ (ap term_of c.in-Proj.is ∙ term_of-Proj c.in-Proj.field-0)
    (ap found c.in_ok-text-in-Proj.ensures)

pub bounds-parts-0-in-Ascribe : goal.bounds-parts-0-in-Ascribe
bounds-parts-0-in-Ascribe c =
    let one = ascribe_part c.args.table.now (term_of c.args.term.now) c.args.parts.now c.requires.many _ _ (ap term_of c.in-Ascribe.is ∙ term_of-Ascribe c.in-Ascribe.ascription) in
    let inside : 0 < length c.args.parts.now = omega (arith, one) in
    inside

pub in_ascription-requires : goal.in_ascription-requires
in_ascription-requires c =
    let one = ascribe_part c.args.table.now (term_of c.args.term.now) c.args.parts.now c.requires.many _ _ (ap term_of c.in-Ascribe.is ∙ term_of-Ascribe c.in-Ascribe.ascription) in
    c.requires.stand 0 _ (omega (arith, one))

pub returns-in-Ascribe : goal.returns-in-Ascribe
returns-in-Ascribe c =
    let is = ap term_of c.in-Ascribe.is ∙ term_of-Ascribe c.in-Ascribe.ascription ∙ ap (λ p. ascribe (term_of p.0) (written_of p.1)) (sym c.deref.ensures) in
    IfOk-weaker c.in_ascription.result _ _
    (λ made told. told_ascribe c.args.table.now (term_of c.args.term.now) c.args.parts.now c.requires.many _ _ _ (option_map mismatch_of made) is told)
    c.in_ascription.ensures

pub bounds-parts-0-in-Fix : goal.bounds-parts-0-in-Fix
bounds-parts-0-in-Fix c =
    let one = fix_part c.args.table.now (term_of c.args.term.now) c.args.parts.now c.requires.many _ (ap term_of c.in-Fix.is ∙ term_of-Fix c.in-Fix.field-0) in
    let inside : 0 < length c.args.parts.now = omega (arith, one) in
    inside

pub in_fix-requires : goal.in_fix-requires
in_fix-requires c =
    let one = fix_part c.args.table.now (term_of c.args.term.now) c.args.parts.now c.requires.many _ (ap term_of c.in-Fix.is ∙ term_of-Fix c.in-Fix.field-0) in
    c.requires.stand 0 _ (omega (arith, one))

pub returns-in_ok-in_fix-in-Fix : goal.returns-in_ok-in_fix-in-Fix
returns-in_ok-in_fix-in-Fix c =
    told_fix c.args.table.now (term_of c.args.term.now) c.args.parts.now c.requires.many _ _ _ (ap term_of c.in-Fix.is ∙ term_of-Fix c.in-Fix.field-0)
    c.in_ok-in_fix-in-Fix.ensures

pub bounds-parts-0-in-Succ : goal.bounds-parts-0-in-Succ
bounds-parts-0-in-Succ c =
    let one = operation_part c.args.table.now c.args.term.now c.args.parts.now c.requires.many c.in-Succ.is in
    let inside : 0 < length c.args.parts.now = omega (arith, one) in
    inside

pub below-requires-in-Succ : goal.below-requires-in-Succ
below-requires-in-Succ c =
    let one = operation_part c.args.table.now c.args.term.now c.args.parts.now c.requires.many c.in-Succ.is in
    c.requires.stand 0 _ (omega (arith, one))

pub returns-in_ok-below-in-Succ : goal.returns-in_ok-below-in-Succ
returns-in_ok-below-in-Succ c =
    told_operation c.args.table.now c.args.term.now c.args.parts.now c.requires.many c.in-Succ.is _ _ c.in_ok-below-in-Succ.ensures

pub returns-in_default : goal.returns-in_default
returns-in_default c =
    told_nothing c.args.term.now _ c.in_default.not-If c.in_default.not-Succ c.in_default.not-Pred c.in_default.not-IsZero c.in_default.not-App c.in_default.not-Ascribe
    c.in_default.not-Proj c.in_default.not-Fix
