use Rattle.std.proofs.Common.{◌+◌, ◌-◌, None, ap, refl, sym, ◌∙◌, string_bytes, arith, reverse, Some}
use Rattle.std.specs.Option.{option_map}
use Rattle.std.proofs.lemmas.Result.{IfOk-weaker}
use Rattle.lam_rules.specs.Types.{arrow, record_of}
use Rattle.lam_rules.specs.Terms.{true_term, false_term, unit_term, numeral, if_then_else, succ, pred, is_zero, let_in}
use Rattle.lam_rules.specs.TermViews.{term_of, terms_of, written_of}
use Rattle.lam_rules.specs.TypeViews.{typ_of, fields_of}
use Rattle.lam_rules.specs.TypingViews.{typings_of, typing_tree_of}
use Rattle.lam_rules.specs.declared.rules.TypeRule.{TypeRule}
use Rattle.lam_rules.proofs.TermShapes.{term_of-True, term_of-False, term_of-Num, term_of-Var, term_of-Free, term_of-Unit}
use Rattle.lam_rules.proofs.TypeShapes.{typ_of-Bool, typ_of-Nat, typ_of-Unit}
use Rattle.lam_rules.proofs.TypingShapes.{type_in-typing_tree_of}
use Rattle.lam_scope.specs.Sights.{inside, inside_fields}
use Rattle.lam_typing.specs.inner.Proving.{tree_in}
use Rattle.lam_typing.proofs.Sizes.{size_of, size_of_fields}
use Rattle.lam_typing.proofs.Arms.{if_arm, succ_arm, pred_arm, is_zero_arm, lambda_arm, apply_arm, ascribe_arm, let_arm, record_arm, project_arm, fix_arm}
use Rattle.lam_typing.proofs.BuiltProofs.{free_none, as_wide, as_none, number_form, number_none, if_form, if_none_else, if_none_then, if_none_condition, lambda_form, lambda_none, faulty_lambda_none, apply_none_argument, apply_none_function, ascribe_form, ascribe_none, faulty_ascribe_none, let_form, let_none_body, let_none_bound, record_form, record_none, no_fields_form, more_fields_form, more_fields_none, first_field_none, project_form, project_none, project_no_record, project_no_field, fix_form, fix_none}
use Rattle.lam_typing.proofs.BuiltSteps.{no_terms_of, step_as, some_wide, none_wide, term_of_form, term_none, record_in, no_record_in, first_before, first_behind, inside_number}
use Rattle.lam_typing.proofs.proving.+prove_term.Goals as goal

pub prove_apply-returns-in_default : goal.prove_apply-returns-in_default
prove_apply-returns-in_default t c =
    let second = rw c.in_default.is at c.in_ok-second.ensures in
    record { first = tt; proves = apply_none_argument _ _ _ _ _ second.proves }

pub prove_apply-returns-in_default-2 : goal.prove_apply-returns-in_default-2
prove_apply-returns-in_default-2 t c =
    let second = rw c.in-Some.is at c.in_ok-second.ensures in
    let first = rw c.in_default-2.is at c.in_ok-made.ensures in
    record { first = tt; proves = apply_none_function _ _ _ _ _ _ second.first first.proves }

pub prove_apply-returns : goal.prove_apply-returns
prove_apply-returns t c =
    let second = rw c.in-Some.is at c.in_ok-second.ensures in
    let first = rw c.in-Some-2.is at c.in_ok-made.ensures in
    c.finish_apply.ensures (term_of c.args.function.now) (term_of c.args.argument.now) c.args.place first second

pub prove_as-returns-in_default : goal.prove_as-returns-in_default
prove_as-returns-in_default t c =
    let made = rw c.in_default.is at c.in_ok-made.ensures in
    record { first = tt; proves = as_none _ _ _ _ made.proves }

pub prove_as-returns-in_default-2 : goal.prove_as-returns-in_default-2
prove_as-returns-in_default-2 t c =
    let made = rw c.in-Some.is at c.in_ok-made.ensures in
    record { first = tt; proves = as_wide _ _ _ _ _ None made.proves (none_wide _ _ _ _ c.in_default-2.is c.in_ok-proof.ensures) }

pub prove_as-returns : goal.prove_as-returns
prove_as-returns t c =
    let made = rw c.in-Some.is at c.in_ok-made.ensures in
    record { first = made.first; proves = as_wide _ _ _ _ _ (Some (typing_tree_of c.in-Some-2.proof)) made.proves (some_wide _ _ _ _ _ c.in-Some-2.is c.in_ok-proof.ensures) }

pub prove_ascribe-returns-in_default : goal.prove_ascribe-returns-in_default
prove_ascribe-returns-in_default t c =
    record { first = tt; proves = rw (ap written_of c.in_default.is) (faulty_ascribe_none _ (term_of c.args.operand.now) c.args.place _) }

pub prove_ascribe-returns-in_default-2 : goal.prove_ascribe-returns-in_default-2
prove_ascribe-returns-in_default-2 t c =
    let made = rw c.in_default-2.is at c.in_ok-made.ensures in
    record { first = tt; proves = rw (ap written_of c.in-Some.is) (ascribe_none _ _ _ _ _ made.proves) }

pub prove_ascribe-returns : goal.prove_ascribe-returns
prove_ascribe-returns t c =
    let built = rw c.in-Some-2.is at c.in_ok-made.ensures in
    rw (ap written_of c.in-Some.is) (IfOk-weaker c.finish_over.result _ _ (λ made done. record {
      first = first_before made c.in-Some-2.made.first (inside (term_of c.args.operand.now) + 1) c.args.place done.first (omega (arith, built.first));
      proves = ascribe_form _ _ _ _ _ _ _ (option_map tree_in made) refl built.proves (rw c.in_ok-conclusion.ensures at done.wide);
    }) c.finish_over.ensures)

pub prove_fields-returns-in_default : goal.prove_fields-returns-in_default
prove_fields-returns-in_default t c =
    let trees = ap (λ ps. typings_of (reverse ps)) c.new.ensures.items in
    let types = ap (λ fs. fields_of (reverse fs)) c.new-in_default.ensures.items in
    rw (no_terms_of c.args.fields.now c.in_default.ensures.cases) (record { first = omega arith; proves = no_fields_form _ _ _ trees types })

pub prove_fields-prove_fields-requires : goal.prove_fields-prove_fields-requires
prove_fields-prove_fields-requires t c =
    let cases = c.in-Some.ensures.cases.0 in
    (omega (arith, c.decreases, ap (λ fs. size_of_fields (terms_of fs)) cases), omega (arith, c.requires, ap (λ fs. inside_fields (terms_of fs)) cases))

pub prove_fields-returns-in_default-2 : goal.prove_fields-returns-in_default-2
prove_fields-returns-in_default-2 t c =
    let others = rw c.in_default-2.is at c.in_ok-made.ensures in
    record { first = tt; proves = rw (ap terms_of c.in-Some.ensures.cases.0) (more_fields_none _ _ _ _ _ others.proves) }

pub prove_fields-prove_term-requires : goal.prove_fields-prove_term-requires
prove_fields-prove_term-requires t c =
    let cases = c.in-Some.ensures.cases.0 in
    let others = rw c.in-Some-2.is at c.in_ok-made.ensures in
    (omega (arith, c.decreases, ap (λ fs. size_of_fields (terms_of fs)) cases), omega (arith, c.requires, ap (λ fs. inside_fields (terms_of fs)) cases, others.first))

pub prove_fields-returns-in_default-3 : goal.prove_fields-returns-in_default-3
prove_fields-returns-in_default-3 t c =
    let others = rw c.in-Some-2.is at c.in_ok-made.ensures in
    let own = rw c.in_default-3.is at c.in_ok-own.ensures in
    record { first = tt; proves = rw (ap terms_of c.in-Some.ensures.cases.0) (first_field_none _ _ _ _ _ _ _ others.first others.proves own.proves) }

pub prove_fields-returns : goal.prove_fields-returns
prove_fields-returns t c =
    let others = rw c.in-Some-2.is at c.in_ok-made.ensures in
    let own = rw c.in-Some-3.is at c.in_ok-own.ensures in
    let put = rw c.deref.ensures at c.in_ok-put_field.ensures in
    rw (ap terms_of c.in-Some.ensures.cases.0) (record {
      first = omega (arith, others.first, own.first, put.first);
      proves = more_fields_form _ _ _ _ _ _ _ _ _ others.first others.proves own.proves put.trees put.types;
    })

pub prove_fix-returns-in_default : goal.prove_fix-returns-in_default
prove_fix-returns-in_default t c =
    let made = rw c.in_default.is at c.in_ok-made.ensures in
    record { first = tt; proves = fix_none _ _ _ _ _ c.in_ok-wanted.ensures made.proves }

pub prove_fix-returns : goal.prove_fix-returns
prove_fix-returns t c =
    let built = rw c.in-Some.is at c.in_ok-made.ensures in
    IfOk-weaker c.finish_over.result _ _ (λ made done. record {
      first = first_before made c.in-Some.made.first (inside (term_of c.args.operand.now) + 1) c.args.place done.first (omega (arith, built.first));
      proves = fix_form _ _ _ _ _ _ _ (option_map tree_in made) c.in_ok-wanted.ensures refl built.proves (rw c.in_ok-conclusion.ensures at done.wide);
    }) c.finish_over.ensures

pub prove_if-returns-in_default : goal.prove_if-returns-in_default
prove_if-returns-in_default t c =
    let third = rw c.in_default.is at c.in_ok-third.ensures in
    record { first = tt; proves = if_none_else _ _ _ _ _ _ third.proves }

pub prove_if-returns-in_default-2 : goal.prove_if-returns-in_default-2
prove_if-returns-in_default-2 t c =
    let third = rw c.in-Some.is at c.in_ok-third.ensures in
    let second = rw c.in_default-2.is at c.in_ok-second.ensures in
    record { first = tt; proves = if_none_then _ _ _ _ _ _ _ third.first second.proves }

pub prove_if-returns-in_default-3 : goal.prove_if-returns-in_default-3
prove_if-returns-in_default-3 t c =
    let third = rw c.in-Some.is at c.in_ok-third.ensures in
    let second = rw c.in-Some-2.is at c.in_ok-second.ensures in
    let first = rw (c.in_default-3.is, typ_of-Bool) at c.in_ok-first.ensures in
    record { first = tt; proves = if_none_condition _ _ _ _ _ _ _ _ third.first second.first first.proves }

pub prove_if-returns : goal.prove_if-returns
prove_if-returns t c =
    let e = if_then_else (term_of c.args.condition.now) (term_of c.args.then_term.now) (term_of c.args.else_term.now) in
    let third = rw c.in-Some.is at c.in_ok-third.ensures in
    let second = rw c.in-Some-2.is at c.in_ok-second.ensures in
    let first = rw (c.in-Some-3.is, typ_of-Bool) at c.in_ok-first.ensures in
    let d = c.args.grounds.now.typing.now.dialect in
    IfOk-weaker c.finish.result _ _ (λ made done. record {
      first = first_before made c.in-Some-3.first.first (inside e) c.args.place done.first (omega (arith, third.first, second.first, first.first));
      proves = if_form _ _ _ _ _ _ _ _ _ _ _ (option_map tree_in made) third.first second.first third.proves second.proves first.proves
          (step_as TypeRule.If _ (typ_of c.args.ty.now) _ _ (typ_of c.args.ty.now) (option_map tree_in made) d c.in_ok-conclusion.ensures (ap typings_of c.in_ok-premises.ensures.items) done.wide);
    }) c.finish.ensures

pub prove_lambda-returns-in_default : goal.prove_lambda-returns-in_default
prove_lambda-returns-in_default t c =
    record { first = tt; proves = rw (ap written_of c.in_default.is) (faulty_lambda_none _ (term_of c.args.body.now) c.args.place _) }

pub prove_lambda-returns-in_default-2 : goal.prove_lambda-returns-in_default-2
prove_lambda-returns-in_default-2 t c =
    let made = rw c.in_default-2.is at c.in_ok-made.ensures in
    record { first = tt; proves = rw (ap written_of c.in-Some.is) (lambda_none _ _ _ _ _ made.proves) }

pub prove_lambda-returns : goal.prove_lambda-returns
prove_lambda-returns t c =
    let built = rw c.in-Some-2.is at c.in_ok-made.ensures in
    let type = c.in_ok-conclusion.ensures ∙ (λ i. arrow (typ_of c.in-Some.parameter) (sym (type_in-typing_tree_of c.in-Some-2.made.proof) i)) in
    rw (ap written_of c.in-Some.is) (IfOk-weaker c.finish_over.result _ _ (λ made done. record {
      first = first_before made c.in-Some-2.made.first (inside (term_of c.args.body.now) + 1) c.args.place done.first (omega (arith, built.first));
      proves = lambda_form _ _ _ _ _ _ _ (option_map tree_in made) type built.proves done.wide;
    }) c.finish_over.ensures)

pub prove_let-returns-in_default : goal.prove_let-returns-in_default
prove_let-returns-in_default t c =
    let second = rw c.in_default.is at c.in_ok-second.ensures in
    record { first = tt; proves = let_none_body _ _ _ _ _ second.proves }

pub prove_let-returns-in_default-2 : goal.prove_let-returns-in_default-2
prove_let-returns-in_default-2 t c =
    let second = rw c.in-Some.is at c.in_ok-second.ensures in
    let first = rw c.in_default-2.is at c.in_ok-made.ensures in
    record { first = tt; proves = let_none_bound _ _ _ _ _ _ second.first first.proves }

pub prove_let-returns : goal.prove_let-returns
prove_let-returns t c =
    let e = let_in (term_of c.args.bound.now) (term_of c.args.body.now) in
    let second = rw c.in-Some.is at c.in_ok-second.ensures in
    let first = rw c.in-Some-2.is at c.in_ok-made.ensures in
    let type = c.in_ok-conclusion.ensures ∙ sym (type_in-typing_tree_of c.in-Some.second.proof) in
    IfOk-weaker c.finish_over_two.result _ _ (λ made done. record {
      first = first_before made c.in-Some-2.made.first (inside e) c.args.place done.first (omega (arith, second.first, first.first));
      proves = let_form _ _ _ _ _ _ _ _ _ (option_map tree_in made) second.first type second.proves first.proves done.wide;
    }) c.finish_over_two.ensures

pub prove_number-returns-in_default : goal.prove_number-returns-in_default
prove_number-returns-in_default t c =
    λ e is.
    let made = rw (c.in_default.is, typ_of-Nat) at c.in_ok-made.ensures in
    record { first = tt; proves = number_none _ c.args.rule e _ (typ_of c.args.conclusion) _ _ is made.proves }

pub prove_number-returns : goal.prove_number-returns
prove_number-returns t c =
    λ e is.
    let built = rw (c.in-Some.is, typ_of-Nat) at c.in_ok-made.ensures in
    let places = inside_number c.args.rule e (term_of c.args.operand.now) _ is in
    IfOk-weaker c.finish_over.result _ _ (λ made done. record {
      first = first_before made c.in-Some.made.first (inside e) c.args.place done.first (omega (arith, built.first, places));
      proves = number_form _ c.args.rule e _ (typ_of c.args.conclusion) _ _ _ (option_map tree_in made) is built.proves done.wide;
    }) c.finish_over.ensures

pub prove_project-returns-in_default : goal.prove_project-returns-in_default
prove_project-returns-in_default t c =
    let made = rw c.in_default.is at c.in_ok-made.ensures in
    record { first = tt; proves = project_none _ _ _ _ _ made.proves }

pub prove_project-returns-in_default-ty : goal.prove_project-returns-in_default-ty
prove_project-returns-in_default-ty t c =
    let made = rw c.in-Some.is at c.in_ok-made.ensures in
    record { first = tt; proves = project_no_record _ _ _ _ _ _ made.proves (no_record_in c.in-Some.made c.in_default-ty.not-Record) }

pub prove_project-returns-in_default-field_type : goal.prove_project-returns-in_default-field_type
prove_project-returns-in_default-field_type t c =
    let made = rw c.in-Some.is at c.in_ok-made.ensures in
    let type = record_in c.in-Some.made c.in-Record.fields c.in-Record.is ∙ ap (λ fs. record_of (fields_of fs)) (sym (c.deref-2.ensures.value ∙ ap (λ v. v.items) c.deref.ensures)) in
    record { first = tt; proves = project_no_field _ _ _ _ _ _ _ made.proves type c.in_default-field_type.ensures.absent }

pub prove_project-returns : goal.prove_project-returns
prove_project-returns t c =
    let built = rw c.in-Some.is at c.in_ok-made.ensures in
    let type = record_in c.in-Some.made c.in-Record.fields c.in-Record.is ∙ ap (λ fs. record_of (fields_of fs)) (sym (c.deref-2.ensures.value ∙ ap (λ v. v.items) c.deref.ensures)) in
    IfOk-weaker c.finish_over.result _ _ (λ made done. record {
      first = first_before made c.in-Some.made.first (inside (term_of c.args.operand.now) + 1) c.args.place done.first (omega (arith, built.first));
      proves = project_form _ _ _ _ _ _ _ _ _ (option_map tree_in made) built.proves type c.in-Some-field_type.ensures.found c.in_ok-conclusion.ensures done.wide;
    }) c.finish_over.ensures

pub prove_record-returns-in_default : goal.prove_record-returns-in_default
prove_record-returns-in_default t c =
    let made = rw c.in_default.is at c.in_ok-made.ensures in
    record { first = tt; proves = record_none _ _ _ _ made.proves }

pub prove_record-returns : goal.prove_record-returns
prove_record-returns t c =
    let built = rw c.in-Some.is at c.in_ok-made.ensures in
    let type = c.in_ok-record.ensures ∙ ap (λ fs. record_of (fields_of fs)) c.reverse-2.ensures.items in
    let d = c.args.grounds.now.typing.now.dialect in
    IfOk-weaker c.finish.result _ _ (λ made done. record {
      first = first_before made c.in-Some.made.first (inside_fields (terms_of c.args.fields.now)) c.args.place done.first built.first;
      proves = record_form _ _ _ _ _ (option_map tree_in made) built.proves
          (step_as TypeRule.Rcd _ _ _ _ (typ_of c.args.ty.now) (option_map tree_in made) d type (ap typings_of c.reverse.ensures.items) done.wide);
    }) c.finish.ensures

pub prove_term-returns-in_default : goal.prove_term-returns-in_default
prove_term-returns-in_default t c =
    record { first = tt; proves = term_none c.args.grounds.now (term_of c.args.term.now) c.args.behind (sym (rw c.in_default.is at c.in_ok-ty.ensures)) }

pub prove_term-returns : goal.prove_term-returns
prove_term-returns t c =
    let found = sym (rw c.in-Some.is at c.in_ok-ty.ensures) in
    IfOk-weaker c.prove_form.result _ _ (λ made form. record {
      first = first_behind made (inside (term_of c.args.term.now)) (c.args.behind - 1) c.args.behind form.first (omega (arith, c.requires));
      proves = term_of_form _ _ _ _ (option_map tree_in made) found form.proves;
    }) c.prove_form.ensures

pub prove_form-returns-in-True : goal.prove_form-returns-in-True
prove_form-returns-in-True t c = rw (ap term_of c.in-True.is ∙ term_of-True) (c.prove_leaf.ensures true_term typ_of-Bool)

pub prove_form-returns-in-False : goal.prove_form-returns-in-False
prove_form-returns-in-False t c = rw (ap term_of c.in-False.is ∙ term_of-False) (c.prove_leaf-in-False.ensures false_term typ_of-Bool)

pub prove_form-returns-in-Num : goal.prove_form-returns-in-Num
prove_form-returns-in-Num t c = rw (ap term_of c.in-Num.is ∙ term_of-Num c.in-Num.field-0) (c.prove_leaf-in-Num.ensures (numeral (string_bytes c.in-Num.field-0)) typ_of-Nat)

pub prove_form-returns-in-Var : goal.prove_form-returns-in-Var
prove_form-returns-in-Var t c = rw (ap term_of c.in-Var.is ∙ term_of-Var c.in-Var.field-0) (c.prove_variable.ensures c.in-Var.field-0)

pub prove_form-returns-in-Free : goal.prove_form-returns-in-Free
prove_form-returns-in-Free t c = rw (ap term_of c.in-Free.is ∙ term_of-Free c.in-Free.field-0) (record { first = tt; proves = free_none _ _ _ _ })

pub prove_form-returns-in-Unit : goal.prove_form-returns-in-Unit
prove_form-returns-in-Unit t c = rw (ap term_of c.in-Unit.is ∙ term_of-Unit) (c.prove_leaf-in-Unit.ensures unit_term typ_of-Unit)

pub prove_form-prove_if-requires : goal.prove_form-prove_if-requires
prove_form-prove_if-requires t c =
    let arm = if_arm _ _ _ _ _ c.in-If.is c.deref.ensures c.deref-in-If.ensures c.deref-in-If-2.ensures in
    (omega (arith, c.decreases, ap size_of arm), omega (arith, c.requires, ap inside arm))

pub prove_form-returns-in-If : goal.prove_form-returns-in-If
prove_form-returns-in-If t c = rw (if_arm _ _ _ _ _ c.in-If.is c.deref.ensures c.deref-in-If.ensures c.deref-in-If-2.ensures) c.prove_if.ensures

pub prove_form-prove_number-requires : goal.prove_form-prove_number-requires
prove_form-prove_number-requires t c =
    let arm = succ_arm _ _ _ c.in-Succ.is c.deref-in-Succ.ensures in
    (omega (arith, c.decreases, ap size_of arm), omega (arith, c.requires, ap inside arm))

pub prove_form-returns-in-Succ : goal.prove_form-returns-in-Succ
prove_form-returns-in-Succ t c = rw (succ_arm _ _ _ c.in-Succ.is c.deref-in-Succ.ensures) (c.prove_number.ensures (succ (term_of c.deref-in-Succ.result.now)) (refl, typ_of-Nat))

pub prove_form-prove_number-requires-in-Pred : goal.prove_form-prove_number-requires-in-Pred
prove_form-prove_number-requires-in-Pred t c =
    let arm = pred_arm _ _ _ c.in-Pred.is c.deref-in-Pred.ensures in
    (omega (arith, c.decreases, ap size_of arm), omega (arith, c.requires, ap inside arm))

pub prove_form-returns-in-Pred : goal.prove_form-returns-in-Pred
prove_form-returns-in-Pred t c = rw (pred_arm _ _ _ c.in-Pred.is c.deref-in-Pred.ensures) (c.prove_number-in-Pred.ensures (pred (term_of c.deref-in-Pred.result.now)) (refl, typ_of-Nat))

pub prove_form-prove_number-requires-in-IsZero : goal.prove_form-prove_number-requires-in-IsZero
prove_form-prove_number-requires-in-IsZero t c =
    let arm = is_zero_arm _ _ _ c.in-IsZero.is c.deref-in-IsZero.ensures in
    (omega (arith, c.decreases, ap size_of arm), omega (arith, c.requires, ap inside arm))

pub prove_form-returns-in-IsZero : goal.prove_form-returns-in-IsZero
prove_form-returns-in-IsZero t c =
    rw (is_zero_arm _ _ _ c.in-IsZero.is c.deref-in-IsZero.ensures) (c.prove_number-in-IsZero.ensures (is_zero (term_of c.deref-in-IsZero.result.now)) (refl, typ_of-Bool))

pub prove_form-prove_lambda-requires : goal.prove_form-prove_lambda-requires
prove_form-prove_lambda-requires t c =
    let arm = lambda_arm _ _ _ _ c.in-Abs.is c.deref-in-Abs.ensures c.deref-in-Abs-2.ensures in
    (omega (arith, c.decreases, ap size_of arm), omega (arith, c.requires, ap inside arm))

pub prove_form-returns-in-Abs : goal.prove_form-returns-in-Abs
prove_form-returns-in-Abs t c = rw (lambda_arm _ _ _ _ c.in-Abs.is c.deref-in-Abs.ensures c.deref-in-Abs-2.ensures) c.prove_lambda.ensures

pub prove_form-prove_apply-requires : goal.prove_form-prove_apply-requires
prove_form-prove_apply-requires t c =
    let arm = apply_arm _ _ _ _ c.in-App.is c.deref-in-App.ensures c.deref-in-App-2.ensures in
    (omega (arith, c.decreases, ap size_of arm), omega (arith, c.requires, ap inside arm))

pub prove_form-returns-in-App : goal.prove_form-returns-in-App
prove_form-returns-in-App t c = rw (apply_arm _ _ _ _ c.in-App.is c.deref-in-App.ensures c.deref-in-App-2.ensures) c.prove_apply.ensures

pub prove_form-prove_ascribe-requires : goal.prove_form-prove_ascribe-requires
prove_form-prove_ascribe-requires t c =
    let arm = ascribe_arm _ _ _ _ c.in-Ascribe.is c.deref-in-Ascribe.ensures c.deref-in-Ascribe-2.ensures in
    (omega (arith, c.decreases, ap size_of arm), omega (arith, c.requires, ap inside arm))

pub prove_form-returns-in-Ascribe : goal.prove_form-returns-in-Ascribe
prove_form-returns-in-Ascribe t c = rw (ascribe_arm _ _ _ _ c.in-Ascribe.is c.deref-in-Ascribe.ensures c.deref-in-Ascribe-2.ensures) c.prove_ascribe.ensures

pub prove_form-prove_let-requires : goal.prove_form-prove_let-requires
prove_form-prove_let-requires t c =
    let arm = let_arm _ _ _ _ c.in-Let.is c.deref-in-Let.ensures c.deref-in-Let-2.ensures in
    (omega (arith, c.decreases, ap size_of arm), omega (arith, c.requires, ap inside arm))

pub prove_form-returns-in-Let : goal.prove_form-returns-in-Let
prove_form-returns-in-Let t c = rw (let_arm _ _ _ _ c.in-Let.is c.deref-in-Let.ensures c.deref-in-Let-2.ensures) c.prove_let.ensures

pub prove_form-prove_record-requires : goal.prove_form-prove_record-requires
prove_form-prove_record-requires t c =
    let arm = record_arm _ _ _ c.in-Record.is c.deref-in-Record.ensures.value in
    (omega (arith, c.decreases, ap size_of arm), omega (arith, c.requires, ap inside arm))

pub prove_form-returns-in-Record : goal.prove_form-returns-in-Record
prove_form-returns-in-Record t c = rw (record_arm _ _ _ c.in-Record.is c.deref-in-Record.ensures.value) c.prove_record.ensures

pub prove_form-prove_project-requires : goal.prove_form-prove_project-requires
prove_form-prove_project-requires t c =
    let arm = project_arm _ _ _ _ _ c.in-Proj.is c.deref-in-Proj.ensures c.deref-in-Proj-2.ensures c.deref-in-Proj-3.ensures in
    (omega (arith, c.decreases, ap size_of arm), omega (arith, c.requires, ap inside arm))

pub prove_form-returns-in-Proj : goal.prove_form-returns-in-Proj
prove_form-returns-in-Proj t c = rw (project_arm _ _ _ _ _ c.in-Proj.is c.deref-in-Proj.ensures c.deref-in-Proj-2.ensures c.deref-in-Proj-3.ensures) c.prove_project.ensures

pub prove_form-prove_fix-requires : goal.prove_form-prove_fix-requires
prove_form-prove_fix-requires t c =
    let arm = fix_arm _ _ _ c.in-Fix.is c.deref-in-Fix.ensures in
    (omega (arith, c.decreases, ap size_of arm), omega (arith, c.requires, ap inside arm))

pub prove_form-returns-in-Fix : goal.prove_form-returns-in-Fix
prove_form-returns-in-Fix t c = rw (fix_arm _ _ _ c.in-Fix.is c.deref-in-Fix.ensures) c.prove_fix.ensures
