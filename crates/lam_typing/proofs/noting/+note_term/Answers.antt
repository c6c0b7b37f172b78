use Rattle.std.proofs.Common.{◌+◌, length, vec_len, ap, refl, ◌∙◌, arith, string_bytes}
use Rattle.std.proofs.lemmas.Result.{IfOk-weaker, on_ok_weaker}
use Rattle.lam_rules.specs.Terms.{true_term, false_term, unit_term, if_then_else, lambda, apply, let_in, record_term}
use Rattle.lam_rules.specs.TermViews.{term_of, terms_of, written_of}
use Rattle.lam_rules.proofs.TermShapes.{term_of-True, term_of-False, term_of-Num, term_of-Var, term_of-Free, term_of-Unit}
use Rattle.lam_scope.specs.Sights.{inside, inside_fields, behind_term}
use Rattle.lam_typing.specs.declared.noting.Note.TheVariants.{Lambda, Nothing}
use Rattle.lam_typing.specs.declared.noting.Source.TheVariants.{Written, Term as TermAt}
use Rattle.lam_typing.proofs.Sizes.{size_of}
use Rattle.lam_typing.proofs.Arms.{if_arm, succ_arm, pred_arm, is_zero_arm, lambda_arm, apply_arm, ascribe_arm, let_arm, record_arm, project_arm, fix_arm}
use Rattle.lam_typing.proofs.NotedParts.{then_term, term_done, over_done, under_done, let_under, fields_then, popped_items}
use Rattle.lam_typing.proofs.noting.+note_term.Goals as goal

pub note_apply-returns : goal.note_apply-returns
note_apply-returns t c =
    let first = c.in_ok-note_term.ensures in
    let f = term_of c.args.function.now in
    let a = term_of c.args.argument.now in
    let both = then_term (behind_term (length c.args.notes.now.noted.items) f) c.args.notes.now c.note_term.new.notes c.note_term-2.new.notes _ (inside f + 1) a _ (let b = first.more.behind in omega arith) first.more c.in_ok-note_term-2.ensures in
    IfOk-weaker c.note_here.result _ _ (λ place one. term_done c.args.notes.now c.note_term-2.new.notes c.note_here.new.notes (apply f a) _ (inside f + 1 + (inside a + 1)) Nothing place.0 (λ found. refl) (omega arith) both one (λ found. refl)) c.note_here.ensures

pub note_fields-returns : goal.note_fields-returns
note_fields-returns t c = rw (ap terms_of c.in-Some.ensures.cases.0)
    (on_ok_weaker c.note_fields.result (λ rest. fields_then c.args.notes.now c.note_term.new.notes c.note_fields.new.notes (string_bytes c.in-Some.field.now.0) (term_of c.in-Some.field.now.1) (terms_of c.in-Some.others.now) _ c.in_ok-note_term.ensures rest) c.note_fields.ensures)

pub note_if-returns : goal.note_if-returns
note_if-returns t c =
    let first = c.in_ok-note_term.ensures in
    let e1 = term_of c.args.condition.now in
    let e2 = term_of c.args.then_term.now in
    let e3 = term_of c.args.else_term.now in
    let k = length c.args.notes.now.noted.items in
    let both = then_term (behind_term k e1) c.args.notes.now c.note_term.new.notes c.note_term-2.new.notes _ (inside e1 + 1) e2 _ (let b = first.more.behind in omega arith) first.more c.in_ok-note_term-2.ensures in
    let three = then_term (behind_term (behind_term k e1) e2) c.args.notes.now c.note_term-2.new.notes c.note_term-3.new.notes _ (inside e1 + 1 + (inside e2 + 1)) e3 _ (let b = both.behind in omega arith) both c.in_ok-note_term-3.ensures in
    IfOk-weaker c.note_here.result _ _ (λ place one. term_done c.args.notes.now c.note_term-3.new.notes c.note_here.new.notes (if_then_else e1 e2 e3) _ (inside e1 + 1 + (inside e2 + 1) + (inside e3 + 1)) Nothing place.0 (λ found. refl) (omega arith) three one (λ found. refl)) c.note_here.ensures

pub note_lambda-returns : goal.note_lambda-returns
note_lambda-returns t c =
    let w = written_of c.args.written.now in
    let e = term_of c.args.body.now in
    let over = c.in_ok-note_term.ensures in
    let popped = popped_items c.push.new.self c.pop.new.self c.note_term.new.notes.sources.items c.args.notes.now.sources.items (Written c.args.written) (vec_len c.note_term.new.notes.sources) c.in_ok-push.ensures.items over.more.sources c.note_term.new.notes.sources.ok.0 c.pop.ensures.rest in
    let body = under_done c.args.notes.now c.note_term.new.notes c.push.new.self c.pop.new.self (Written c.args.written) e _ c.in_ok-push.ensures.items over popped in
    IfOk-weaker c.note_here.result _ _ (λ place one. term_done c.args.notes.now (record c.note_term.new.notes { sources = c.pop.new.self }) c.note_here.new.notes (lambda w e) _ (inside e + 1) (Lambda c.args.written) place.0 (λ found. refl) refl body one (λ found. refl)) c.note_here.ensures

pub note_let-returns : goal.note_let-returns
note_let-returns t c =
    let a = term_of c.args.bound.now in
    let b = term_of c.args.body.now in
    let over = c.in_ok-place.ensures in
    let under = c.in_ok-note_term.ensures in
    let popped = popped_items c.push.new.self c.pop.new.self c.note_term-2.new.notes.sources.items c.note_term.new.notes.sources.items (TermAt c.in_ok-place.place) (vec_len c.note_term-2.new.notes.sources) c.in_ok-push.ensures.items under.more.sources c.note_term-2.new.notes.sources.ok.0 c.pop.ensures.rest in
    let both = let_under c.args.notes.now c.note_term.new.notes c.note_term-2.new.notes c.push.new.self c.pop.new.self a b c.in_ok-place.place _ over c.in_ok-push.ensures.items under popped in
    IfOk-weaker c.note_here.result _ _ (λ place one. term_done c.args.notes.now (record c.note_term-2.new.notes { sources = c.pop.new.self }) c.note_here.new.notes (let_in a b) _ (inside a + 1 + (inside b + 1)) Nothing place.0 (λ found. refl) (omega arith) both one (λ found. refl)) c.note_here.ensures

pub note_over-returns : goal.note_over-returns
note_over-returns t c =
    λ e is. IfOk-weaker c.note_here.result _ _ (λ place one. over_done c.args.notes.now c.note_term.new.notes c.note_here.new.notes (term_of c.args.operand.now) _ place.0 e is c.in_ok-note_term.ensures one) c.note_here.ensures

pub note_record-returns : goal.note_record-returns
note_record-returns t c =
    let es = terms_of c.args.fields.now in
    IfOk-weaker c.note_here.result _ _ (λ place one. term_done c.args.notes.now c.note_fields.new.notes c.note_here.new.notes (record_term es) _ (inside_fields es) Nothing place.0 (λ found. refl) refl c.in_ok-note_fields.ensures one (λ found. refl)) c.note_here.ensures

pub note_term-returns-in-True : goal.note_term-returns-in-True
note_term-returns-in-True t c = rw (ap term_of c.in-True.is ∙ term_of-True) (c.note_leaf.ensures true_term tt)

pub note_term-returns-in-False : goal.note_term-returns-in-False
note_term-returns-in-False t c = rw (ap term_of c.in-False.is ∙ term_of-False) (c.note_leaf-in-False.ensures false_term tt)

pub note_term-returns-in-Num : goal.note_term-returns-in-Num
note_term-returns-in-Num t c = rw (ap term_of c.in-Num.is ∙ term_of-Num _) (c.note_leaf-in-Num.ensures _ tt)

pub note_term-returns-in-Var : goal.note_term-returns-in-Var
note_term-returns-in-Var t c = rw (ap term_of c.in-Var.is ∙ term_of-Var c.in-Var.index) c.note_variable.ensures

pub note_term-returns-in-Free : goal.note_term-returns-in-Free
note_term-returns-in-Free t c = rw (ap term_of c.in-Free.is ∙ term_of-Free _) (c.note_leaf-in-Free.ensures _ tt)

pub note_term-returns-in-Unit : goal.note_term-returns-in-Unit
note_term-returns-in-Unit t c = rw (ap term_of c.in-Unit.is ∙ term_of-Unit) (c.note_leaf-in-Unit.ensures unit_term tt)

pub note_term-note_if-requires : goal.note_term-note_if-requires
note_term-note_if-requires t c = omega (arith, c.decreases, ap size_of (if_arm _ _ _ _ _ c.in-If.is c.deref.ensures c.deref-in-If.ensures c.deref-in-If-2.ensures))

pub note_term-returns-in-If : goal.note_term-returns-in-If
note_term-returns-in-If t c = rw (if_arm _ _ _ _ _ c.in-If.is c.deref.ensures c.deref-in-If.ensures c.deref-in-If-2.ensures) c.note_if.ensures

pub note_term-note_over-requires : goal.note_term-note_over-requires
note_term-note_over-requires t c = omega (arith, c.decreases, ap size_of (succ_arm _ _ _ c.in-Succ.is c.deref-in-Succ.ensures))

pub note_term-returns-in-Succ : goal.note_term-returns-in-Succ
note_term-returns-in-Succ t c = rw (succ_arm _ _ _ c.in-Succ.is c.deref-in-Succ.ensures) (c.note_over.ensures _ refl)

pub note_term-note_over-requires-in-Pred : goal.note_term-note_over-requires-in-Pred
note_term-note_over-requires-in-Pred t c = omega (arith, c.decreases, ap size_of (pred_arm _ _ _ c.in-Pred.is c.deref-in-Pred.ensures))

pub note_term-returns-in-Pred : goal.note_term-returns-in-Pred
note_term-returns-in-Pred t c = rw (pred_arm _ _ _ c.in-Pred.is c.deref-in-Pred.ensures) (c.note_over-in-Pred.ensures _ refl)

pub note_term-note_over-requires-in-IsZero : goal.note_term-note_over-requires-in-IsZero
note_term-note_over-requires-in-IsZero t c = omega (arith, c.decreases, ap size_of (is_zero_arm _ _ _ c.in-IsZero.is c.deref-in-IsZero.ensures))

pub note_term-returns-in-IsZero : goal.note_term-returns-in-IsZero
note_term-returns-in-IsZero t c = rw (is_zero_arm _ _ _ c.in-IsZero.is c.deref-in-IsZero.ensures) (c.note_over-in-IsZero.ensures _ refl)

pub note_term-note_lambda-requires : goal.note_term-note_lambda-requires
note_term-note_lambda-requires t c = omega (arith, c.decreases, ap size_of (lambda_arm _ _ _ _ c.in-Abs.is c.deref-in-Abs.ensures c.deref-in-Abs-2.ensures))

pub note_term-returns-in-Abs : goal.note_term-returns-in-Abs
note_term-returns-in-Abs t c = rw (lambda_arm _ _ _ _ c.in-Abs.is c.deref-in-Abs.ensures c.deref-in-Abs-2.ensures) c.note_lambda.ensures

pub note_term-note_apply-requires : goal.note_term-note_apply-requires
note_term-note_apply-requires t c = omega (arith, c.decreases, ap size_of (apply_arm _ _ _ _ c.in-App.is c.deref-in-App.ensures c.deref-in-App-2.ensures))

pub note_term-returns-in-App : goal.note_term-returns-in-App
note_term-returns-in-App t c = rw (apply_arm _ _ _ _ c.in-App.is c.deref-in-App.ensures c.deref-in-App-2.ensures) c.note_apply.ensures

pub note_term-note_over-requires-in-Ascribe : goal.note_term-note_over-requires-in-Ascribe
note_term-note_over-requires-in-Ascribe t c = omega (arith, c.decreases, ap size_of (ascribe_arm _ _ _ _ c.in-Ascribe.is c.deref-in-Ascribe.ensures refl))

pub note_term-returns-in-Ascribe : goal.note_term-returns-in-Ascribe
note_term-returns-in-Ascribe t c = rw (ascribe_arm _ _ _ _ c.in-Ascribe.is c.deref-in-Ascribe.ensures refl) (c.note_over-in-Ascribe.ensures _ refl)

pub note_term-note_let-requires : goal.note_term-note_let-requires
note_term-note_let-requires t c = omega (arith, c.decreases, ap size_of (let_arm _ _ _ _ c.in-Let.is c.deref-in-Let.ensures c.deref-in-Let-2.ensures))

pub note_term-returns-in-Let : goal.note_term-returns-in-Let
note_term-returns-in-Let t c = rw (let_arm _ _ _ _ c.in-Let.is c.deref-in-Let.ensures c.deref-in-Let-2.ensures) c.note_let.ensures

pub note_term-note_record-requires : goal.note_term-note_record-requires
note_term-note_record-requires t c = omega (arith, c.decreases, ap size_of (record_arm _ _ _ c.in-Record.is c.deref-in-Record.ensures.value))

pub note_term-returns-in-Record : goal.note_term-returns-in-Record
note_term-returns-in-Record t c = rw (record_arm _ _ _ c.in-Record.is c.deref-in-Record.ensures.value) c.note_record.ensures

pub note_term-note_over-requires-in-Proj : goal.note_term-note_over-requires-in-Proj
note_term-note_over-requires-in-Proj t c = omega (arith, c.decreases, ap size_of (project_arm _ _ _ _ _ c.in-Proj.is c.deref-in-Proj.ensures refl refl))

pub note_term-returns-in-Proj : goal.note_term-returns-in-Proj
note_term-returns-in-Proj t c = rw (project_arm _ _ _ _ _ c.in-Proj.is c.deref-in-Proj.ensures refl refl) (c.note_over-in-Proj.ensures _ refl)

pub note_term-note_over-requires-in-Fix : goal.note_term-note_over-requires-in-Fix
note_term-note_over-requires-in-Fix t c = omega (arith, c.decreases, ap size_of (fix_arm _ _ _ c.in-Fix.is c.deref-in-Fix.ensures))

pub note_term-returns-in-Fix : goal.note_term-returns-in-Fix
note_term-returns-in-Fix t c = rw (fix_arm _ _ _ c.in-Fix.is c.deref-in-Fix.ensures) (c.note_over-in-Fix.ensures _ refl)
