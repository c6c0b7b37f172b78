use Rattle.std.proofs.Common.{string_bytes, ap, ◌∙◌, arith}
use Rattle.lam_rules.specs.TermViews.{term_of, terms_of}
use Rattle.lam_rules.proofs.TermShapes.{term_of-True, term_of-False, term_of-Num, term_of-Var, term_of-Free, term_of-Unit}
use Rattle.lam_rules.proofs.Tables.{keeps_trans}
use Rattle.lam_typing.proofs.Sizes.{size_of}
use Rattle.lam_typing.proofs.Arms.{if_arm, succ_arm, pred_arm, is_zero_arm, lambda_arm, apply_arm, ascribe_arm, let_arm, record_arm, project_arm, fix_arm}
use Rattle.lam_typing.proofs.InternedParts.{form_still, numbered_still, form_true, form_false, form_unit, form_numeral, form_free, form_variable, form_succ, form_pred, form_is_zero, form_fix, form_if, form_lambda, form_apply, form_let, form_ascribe, form_project, form_record, forms_after, form_by}
use Rattle.lam_typing.proofs.interning.+intern_term.Goals as goal

-- each form of a term

pub intern_term-returns-in-True-clause-form : goal.intern_term-returns-in-True-clause-form
intern_term-returns-in-True-clause-form t c = rw (ap term_of c.in-True.is ∙ term_of-True) (form_true c.args.table.now)

pub intern_term-returns-in-False-clause-form : goal.intern_term-returns-in-False-clause-form
intern_term-returns-in-False-clause-form t c = rw (ap term_of c.in-False.is ∙ term_of-False) (form_false c.args.table.now)

pub intern_term-returns-in-Unit-clause-form : goal.intern_term-returns-in-Unit-clause-form
intern_term-returns-in-Unit-clause-form t c = rw (ap term_of c.in-Unit.is ∙ term_of-Unit) (form_unit c.args.table.now)

pub intern_term-returns-in-Num-clause-form : goal.intern_term-returns-in-Num-clause-form
intern_term-returns-in-Num-clause-form t c =
    rw (ap term_of c.in-Num.is ∙ term_of-Num _) (form_numeral c.args.table.now c.as_str.result (string_bytes c.in-Num.digits) c.as_str.ensures.value)

pub intern_term-returns-in-Free-clause-form : goal.intern_term-returns-in-Free-clause-form
intern_term-returns-in-Free-clause-form t c =
    rw (ap term_of c.in-Free.is ∙ term_of-Free _) (form_free c.args.table.now c.as_str-in-Free.result (string_bytes c.in-Free.name) c.as_str-in-Free.ensures.value)

pub intern_term-returns-in-Var-clause-form : goal.intern_term-returns-in-Var-clause-form
intern_term-returns-in-Var-clause-form t c = rw (ap term_of c.in-Var.is ∙ term_of-Var c.in-Var.index) (form_variable c.args.table.now c.in-Var.index)

pub intern_term-intern_part-requires : goal.intern_term-intern_part-requires
intern_term-intern_part-requires t c =
    let arm = succ_arm _ _ _ c.in-Succ.is c.deref-in-Succ.ensures in
    (omega (arith, c.decreases, ap size_of arm), rw arm at c.requires.wf)

pub intern_term-returns-in_ok-intern_part-in-Succ-clause-form : goal.intern_term-returns-in_ok-intern_part-in-Succ-clause-form
intern_term-returns-in_ok-intern_part-in-Succ-clause-form t c =
    rw (succ_arm _ _ _ c.in-Succ.is c.deref-in-Succ.ensures) (form_succ c.intern_part.new.table c.in_ok-intern_part-in-Succ.field-0 c.in_ok-intern_part-in-Succ.ensures.form)

pub intern_term-intern_part-requires-in-Pred : goal.intern_term-intern_part-requires-in-Pred
intern_term-intern_part-requires-in-Pred t c =
    let arm = pred_arm _ _ _ c.in-Pred.is c.deref-in-Pred.ensures in
    (omega (arith, c.decreases, ap size_of arm), rw arm at c.requires.wf)

pub intern_term-returns-in_ok-intern_part-in-Pred-clause-form : goal.intern_term-returns-in_ok-intern_part-in-Pred-clause-form
intern_term-returns-in_ok-intern_part-in-Pred-clause-form t c =
    rw (pred_arm _ _ _ c.in-Pred.is c.deref-in-Pred.ensures) (form_pred c.intern_part-in-Pred.new.table c.in_ok-intern_part-in-Pred.field-0 c.in_ok-intern_part-in-Pred.ensures.form)

pub intern_term-intern_part-requires-in-IsZero : goal.intern_term-intern_part-requires-in-IsZero
intern_term-intern_part-requires-in-IsZero t c =
    let arm = is_zero_arm _ _ _ c.in-IsZero.is c.deref-in-IsZero.ensures in
    (omega (arith, c.decreases, ap size_of arm), rw arm at c.requires.wf)

pub intern_term-returns-in_ok-intern_part-in-IsZero-clause-form : goal.intern_term-returns-in_ok-intern_part-in-IsZero-clause-form
intern_term-returns-in_ok-intern_part-in-IsZero-clause-form t c =
    rw (is_zero_arm _ _ _ c.in-IsZero.is c.deref-in-IsZero.ensures) (form_is_zero c.intern_part-in-IsZero.new.table c.in_ok-intern_part-in-IsZero.field-0 c.in_ok-intern_part-in-IsZero.ensures.form)

pub intern_term-intern_part-requires-in-Fix : goal.intern_term-intern_part-requires-in-Fix
intern_term-intern_part-requires-in-Fix t c =
    let arm = fix_arm _ _ _ c.in-Fix.is c.deref-in-Fix.ensures in
    (omega (arith, c.decreases, ap size_of arm), rw arm at c.requires.wf)

pub intern_term-returns-in_ok-intern_part-in-Fix-clause-form : goal.intern_term-returns-in_ok-intern_part-in-Fix-clause-form
intern_term-returns-in_ok-intern_part-in-Fix-clause-form t c =
    rw (fix_arm _ _ _ c.in-Fix.is c.deref-in-Fix.ensures) (form_fix c.intern_part-in-Fix.new.table c.in_ok-intern_part-in-Fix.field-0 c.in_ok-intern_part-in-Fix.ensures.form)

pub intern_term-intern_if-requires : goal.intern_term-intern_if-requires
intern_term-intern_if-requires t c =
    let arm = if_arm _ _ _ _ _ c.in-If.is c.deref.ensures c.deref-in-If.ensures c.deref-in-If-2.ensures in
    let wf = rw arm at c.requires.wf in
    (omega (arith, c.decreases, ap size_of arm), (wf.0, (wf.1, wf.2)))

pub intern_term-returns-in-If-clause-form : goal.intern_term-returns-in-If-clause-form
intern_term-returns-in-If-clause-form t c =
    form_by _ _ (if_arm _ _ _ _ _ c.in-If.is c.deref.ensures c.deref-in-If.ensures c.deref-in-If-2.ensures) c.intern_if.ensures.form

pub intern_term-intern_lambda-requires : goal.intern_term-intern_lambda-requires
intern_term-intern_lambda-requires t c =
    let arm = lambda_arm _ _ _ _ c.in-Abs.is c.deref-in-Abs.ensures c.deref-in-Abs-2.ensures in
    (omega (arith, c.decreases, ap size_of arm), rw arm at c.requires.wf)

pub intern_term-returns-in-Abs-clause-form : goal.intern_term-returns-in-Abs-clause-form
intern_term-returns-in-Abs-clause-form t c =
    form_by _ _ (lambda_arm _ _ _ _ c.in-Abs.is c.deref-in-Abs.ensures c.deref-in-Abs-2.ensures) c.intern_lambda.ensures.form

pub intern_term-intern_apply-requires : goal.intern_term-intern_apply-requires
intern_term-intern_apply-requires t c =
    let arm = apply_arm _ _ _ _ c.in-App.is c.deref-in-App.ensures c.deref-in-App-2.ensures in
    (omega (arith, c.decreases, ap size_of arm), rw arm at c.requires.wf)

pub intern_term-returns-in-App-clause-form : goal.intern_term-returns-in-App-clause-form
intern_term-returns-in-App-clause-form t c =
    form_by _ _ (apply_arm _ _ _ _ c.in-App.is c.deref-in-App.ensures c.deref-in-App-2.ensures) c.intern_apply.ensures.form

pub intern_term-intern_ascribe-requires : goal.intern_term-intern_ascribe-requires
intern_term-intern_ascribe-requires t c =
    let arm = ascribe_arm _ _ _ _ c.in-Ascribe.is c.deref-in-Ascribe.ensures c.deref-in-Ascribe-2.ensures in
    (omega (arith, c.decreases, ap size_of arm), rw arm at c.requires.wf)

pub intern_term-returns-in-Ascribe-clause-form : goal.intern_term-returns-in-Ascribe-clause-form
intern_term-returns-in-Ascribe-clause-form t c =
    form_by _ _ (ascribe_arm _ _ _ _ c.in-Ascribe.is c.deref-in-Ascribe.ensures c.deref-in-Ascribe-2.ensures) c.intern_ascribe.ensures.form

pub intern_term-intern_let-requires : goal.intern_term-intern_let-requires
intern_term-intern_let-requires t c =
    let arm = let_arm _ _ _ _ c.in-Let.is c.deref-in-Let.ensures c.deref-in-Let-2.ensures in
    (omega (arith, c.decreases, ap size_of arm), rw arm at c.requires.wf)

pub intern_term-returns-in-Let-clause-form : goal.intern_term-returns-in-Let-clause-form
intern_term-returns-in-Let-clause-form t c =
    form_by _ _ (let_arm _ _ _ _ c.in-Let.is c.deref-in-Let.ensures c.deref-in-Let-2.ensures) c.intern_let.ensures.form

pub intern_term-intern_record-requires : goal.intern_term-intern_record-requires
intern_term-intern_record-requires t c =
    let arm = record_arm _ _ _ c.in-Record.is c.deref-in-Record.ensures.value in
    (omega (arith, c.decreases, ap size_of arm), rw arm at c.requires.wf)

pub intern_term-returns-in-Record-clause-form : goal.intern_term-returns-in-Record-clause-form
intern_term-returns-in-Record-clause-form t c = form_by _ _ (record_arm _ _ _ c.in-Record.is c.deref-in-Record.ensures.value) c.intern_record.ensures.form

pub intern_term-intern_project-requires : goal.intern_term-intern_project-requires
intern_term-intern_project-requires t c =
    let arm = project_arm _ _ _ _ _ c.in-Proj.is c.deref-in-Proj.ensures c.deref-in-Proj-2.ensures c.deref-in-Proj-3.ensures in
    (omega (arith, c.decreases, ap size_of arm), rw arm at c.requires.wf)

pub intern_term-returns-in-Proj-clause-form : goal.intern_term-returns-in-Proj-clause-form
intern_term-returns-in-Proj-clause-form t c =
    form_by _ _ (project_arm _ _ _ _ _ c.in-Proj.is c.deref-in-Proj.ensures c.deref-in-Proj-2.ensures c.deref-in-Proj-3.ensures) c.intern_project.ensures.form

-- from the forms of the parts

pub intern_if-returns-clause-form : goal.intern_if-returns-clause-form
intern_if-returns-clause-form t c =
    let second = keeps_trans c.intern_term.new.table c.intern_term-2.new.table c.intern_term-3.new.table c.in_ok-second.ensures.keeps c.in_ok-third.ensures.keeps in
    form_if c.intern_term-3.new.table c.in_ok-parts.parts c.in_ok-first.first c.in_ok-second.second c.in_ok-third.third c.in_ok-parts.ensures.ok
    (form_still second c.in_ok-first.ensures.form) (form_still c.in_ok-third.ensures.keeps c.in_ok-second.ensures.form) c.in_ok-third.ensures.form

pub intern_lambda-returns-clause-form : goal.intern_lambda-returns-clause-form
intern_lambda-returns-clause-form t c =
    form_lambda c.intern_part.new.table c.in_ok-number.number c.in_ok-form.form
    (numbered_still c.in_ok-number.number c.in_ok-form.ensures.keeps c.in_ok-number.ensures.stands c.in_ok-number.ensures.entry) c.in_ok-form.ensures.form

pub intern_apply-returns-clause-form : goal.intern_apply-returns-clause-form
intern_apply-returns-clause-form t c =
    form_apply c.intern_term-2.new.table c.in_ok-parts.parts c.in_ok-first.first c.in_ok-second.second c.in_ok-parts.ensures.ok
    (form_still c.in_ok-second.ensures.keeps c.in_ok-first.ensures.form) c.in_ok-second.ensures.form

pub intern_let-returns-clause-form : goal.intern_let-returns-clause-form
intern_let-returns-clause-form t c =
    form_let c.intern_term-2.new.table c.in_ok-parts.parts c.in_ok-first.first c.in_ok-second.second c.in_ok-parts.ensures.ok
    (form_still c.in_ok-second.ensures.keeps c.in_ok-first.ensures.form) c.in_ok-second.ensures.form

pub intern_ascribe-returns-clause-form : goal.intern_ascribe-returns-clause-form
intern_ascribe-returns-clause-form t c =
    form_ascribe c.number_of_written.new.table c.in_ok-form.form c.in_ok-number.number
    (form_still c.in_ok-number.ensures.keeps c.in_ok-form.ensures.form) (record { stands = c.in_ok-number.ensures.stands; entry = c.in_ok-number.ensures.entry })

pub intern_project-returns-clause-form : goal.intern_project-returns-clause-form
intern_project-returns-clause-form t c = form_project c.intern_part.new.table c.in_ok-form.form c.args.label c.in_ok-form.ensures.form

pub intern_record-returns-clause-form : goal.intern_record-returns-clause-form
intern_record-returns-clause-form t c =
    form_record c.intern_fields.new.table c.intern_fields.new.forms c.in_ok-forms.ensures.items c.in_ok-intern_fields.ensures.forms

pub intern_fields-returns-clause-forms : goal.intern_fields-returns-clause-forms
intern_fields-returns-clause-forms t c =
    rw (ap terms_of c.in-Some.ensures.cases.0)
    (forms_after c.intern_fields.result c.args.forms.now.items c.intern_fields.new.forms.items c.as_str-label.result (terms_of c.in-Some.others.now)
    c.intern_fields.ensures.keeps c.in_ok-term.ensures.form c.as_str-label.ensures.value c.in_ok-push.ensures.items c.intern_fields.ensures.forms)
