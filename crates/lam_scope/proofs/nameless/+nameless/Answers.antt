use Rattle.std.proofs.Common.{arith, sym, ◌∙◌}
use Rattle.std.proofs.lemmas.List.{append-nil, drop_all}
use Rattle.lam_scope.proofs.Forms.{forms_all, field_forms, node_forms, lambda_form, if_form, let_form, joining, apply_form, project_form, ascribe_form, record_form}
use Rattle.lam_scope.proofs.TreeSizes.{field_size}
use Rattle.lam_scope.proofs.nameless.+nameless.Goals as goal

pub nameless_fields-returns-clause-form : goal.nameless_fields-returns-clause-form
nameless_fields-returns-clause-form t c = forms_all _ _ c.loop-i.forms.items c.args.fields.now c.loop-i.i _ c.loop-i-test.false c.loop-i.invariant.form

pub nameless_fields-returns-clause-uses : goal.nameless_fields-returns-clause-uses
nameless_fields-returns-clause-uses t c = rw (drop_all c.loop-i.i c.args.fields.now c.loop-i-test.false) at c.loop-i.invariant.uses

pub nameless_fields-returns-clause-faults : goal.nameless_fields-returns-clause-faults
nameless_fields-returns-clause-faults t c = sym (append-nil c.loop-i.forming.faults.items) ∙ (rw (drop_all c.loop-i.i c.args.fields.now c.loop-i-test.false) at c.loop-i.invariant.faults)

pub nameless_fields-returns-clause-limit : goal.nameless_fields-returns-clause-limit
nameless_fields-returns-clause-limit t c = rw (drop_all c.loop-i.i c.args.fields.now c.loop-i-test.false) at c.loop-i.invariant.limit

pub nameless_fields-loop-i-preserved : goal.nameless_fields-loop-i-preserved
nameless_fields-loop-i-preserved t c = grind (arith, field_forms)

pub nameless_fields-nameless-requires : goal.nameless_fields-nameless-requires
nameless_fields-nameless-requires t c = omega (arith, c.decreases, field_size c.args.fields.now c.loop-i.i c.index-fields-i.result c.loop-i-test.true c.index-fields-i.is)

-- each form of a term

pub nameless-returns-in-True : goal.nameless-returns-in-True
nameless-returns-in-True t c = grind (arith, node_forms)

pub nameless-returns-in-False : goal.nameless-returns-in-False
nameless-returns-in-False t c = grind (arith, node_forms)

pub nameless-returns-in-Unit : goal.nameless-returns-in-Unit
nameless-returns-in-Unit t c = grind (arith, node_forms)

pub nameless-returns-in_err-use_of-in-Variable : goal.nameless-returns-in_err-use_of-in-Variable
nameless-returns-in_err-use_of-in-Variable t c = grind (arith, node_forms)

pub nameless-returns-in_ok-use_of-in-Variable : goal.nameless-returns-in_ok-use_of-in-Variable
nameless-returns-in_ok-use_of-in-Variable t c = grind (arith, node_forms)

pub nameless-returns-in_err-numeral_of-in-Numeral : goal.nameless-returns-in_err-numeral_of-in-Numeral
nameless-returns-in_err-numeral_of-in-Numeral t c = grind (arith, node_forms)

pub nameless-returns-in_ok-numeral_of-in-Numeral : goal.nameless-returns-in_ok-numeral_of-in-Numeral
nameless-returns-in_ok-numeral_of-in-Numeral t c = grind (arith, node_forms)

pub nameless-returns-in-Lambda : goal.nameless-returns-in-Lambda
nameless-returns-in-Lambda t c = grind (arith, node_forms)

pub nameless-returns-in-If : goal.nameless-returns-in-If
nameless-returns-in-If t c = grind (arith, node_forms)

pub nameless-returns-in-Let : goal.nameless-returns-in-Let
nameless-returns-in-Let t c = grind (arith, node_forms)

pub nameless-returns-in-Letrec : goal.nameless-returns-in-Letrec
nameless-returns-in-Letrec t c = grind (arith, node_forms)

pub nameless-returns-in-Prefixed : goal.nameless-returns-in-Prefixed
nameless-returns-in-Prefixed t c = grind (arith, node_forms)

pub nameless-returns-in-Apply : goal.nameless-returns-in-Apply
nameless-returns-in-Apply t c = grind (arith, node_forms)

pub nameless-returns-in-Project : goal.nameless-returns-in-Project
nameless-returns-in-Project t c = grind (arith, node_forms)

pub nameless-returns-in-Ascribe : goal.nameless-returns-in-Ascribe
nameless-returns-in-Ascribe t c = grind (arith, node_forms)

pub nameless-returns-in-Record : goal.nameless-returns-in-Record
nameless-returns-in-Record t c = grind (arith, node_forms)

-- a lambda

pub lambda_of-returns-in_err-written : goal.lambda_of-returns-in_err-written
lambda_of-returns-in_err-written t c = grind (arith, lambda_form)

pub lambda_of-returns-in_err-body : goal.lambda_of-returns-in_err-body
lambda_of-returns-in_err-body t c = grind (arith, lambda_form)

pub lambda_of-returns-in_err-new : goal.lambda_of-returns-in_err-new
lambda_of-returns-in_err-new t c = grind (arith, lambda_form)

pub lambda_of-returns : goal.lambda_of-returns
lambda_of-returns t c = grind (arith, lambda_form)

-- an if

pub if_of-returns-in_err-first : goal.if_of-returns-in_err-first
if_of-returns-in_err-first t c = grind (arith, if_form)

pub if_of-returns-in_err-second : goal.if_of-returns-in_err-second
if_of-returns-in_err-second t c = grind (arith, if_form)

pub if_of-returns-in_err-third : goal.if_of-returns-in_err-third
if_of-returns-in_err-third t c = grind (arith, if_form)

pub if_of-returns-in_err-new : goal.if_of-returns-in_err-new
if_of-returns-in_err-new t c = grind (arith, if_form)

pub if_of-returns : goal.if_of-returns
if_of-returns t c = grind (arith, if_form)

-- a let

pub let_of-returns-in_err-first : goal.let_of-returns-in_err-first
let_of-returns-in_err-first t c = grind (arith, let_form)

pub let_of-returns-in_err-second : goal.let_of-returns-in_err-second
let_of-returns-in_err-second t c = grind (arith, let_form)

pub let_of-returns-in_err-new : goal.let_of-returns-in_err-new
let_of-returns-in_err-new t c = grind (arith, let_form)

pub let_of-returns : goal.let_of-returns
let_of-returns t c = grind (arith, let_form)

-- a letrec

pub letrec_of-returns-in_err-written : goal.letrec_of-returns-in_err-written
letrec_of-returns-in_err-written t c = grind (arith, joining)

pub letrec_of-returns-in_err-first : goal.letrec_of-returns-in_err-first
letrec_of-returns-in_err-first t c = grind (arith, joining)

pub letrec_of-returns-in_err-second : goal.letrec_of-returns-in_err-second
letrec_of-returns-in_err-second t c = grind (arith, joining)

pub letrec_of-returns-in_err-make_letrec : goal.letrec_of-returns-in_err-make_letrec
letrec_of-returns-in_err-make_letrec t c = grind (arith, joining)

pub letrec_of-returns : goal.letrec_of-returns
letrec_of-returns t c = grind (arith, joining)

-- a term behind a prefix

pub prefixed_of-returns-in_err-form : goal.prefixed_of-returns-in_err-form
prefixed_of-returns-in_err-form t c = grind (arith, joining)

pub prefixed_of-returns-in_err-new : goal.prefixed_of-returns-in_err-new
prefixed_of-returns-in_err-new t c = grind (arith, joining)

pub prefixed_of-returns : goal.prefixed_of-returns
prefixed_of-returns t c = grind (arith, joining)

-- an application

pub apply_of-returns-in_err-first : goal.apply_of-returns-in_err-first
apply_of-returns-in_err-first t c = grind (arith, apply_form)

pub apply_of-returns-in_err-second : goal.apply_of-returns-in_err-second
apply_of-returns-in_err-second t c = grind (arith, apply_form)

pub apply_of-returns-in_err-new : goal.apply_of-returns-in_err-new
apply_of-returns-in_err-new t c = grind (arith, apply_form)

pub apply_of-returns : goal.apply_of-returns
apply_of-returns t c = grind (arith, apply_form)

-- a projection

pub project_of-returns-in_err-form : goal.project_of-returns-in_err-form
project_of-returns-in_err-form t c = grind (arith, project_form)

pub project_of-returns-in_err-copy : goal.project_of-returns-in_err-copy
project_of-returns-in_err-copy t c = grind (arith, project_form)

pub project_of-returns-in_err-new : goal.project_of-returns-in_err-new
project_of-returns-in_err-new t c = grind (arith, project_form)

pub project_of-returns : goal.project_of-returns
project_of-returns t c = grind (arith, project_form)

-- an ascription

pub ascribe_of-returns-in_err-form : goal.ascribe_of-returns-in_err-form
ascribe_of-returns-in_err-form t c = grind (arith, ascribe_form)

pub ascribe_of-returns-in_err-written : goal.ascribe_of-returns-in_err-written
ascribe_of-returns-in_err-written t c = grind (arith, ascribe_form)

pub ascribe_of-returns-in_err-new : goal.ascribe_of-returns-in_err-new
ascribe_of-returns-in_err-new t c = grind (arith, ascribe_form)

pub ascribe_of-returns : goal.ascribe_of-returns
ascribe_of-returns t c = grind (arith, ascribe_form)

-- a record

pub record_of-returns-in_err-forms : goal.record_of-returns-in_err-forms
record_of-returns-in_err-forms t c = grind (arith, record_form)

pub record_of-returns : goal.record_of-returns
record_of-returns t c = grind (arith, record_form)
