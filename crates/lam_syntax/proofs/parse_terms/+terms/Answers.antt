use Rattle.std.proofs.Common.{refl, sym, ◌∙◌, ap, ◌++◌, ◌∷◌, arith}
use Rattle.std.proofs.lemmas.Result.{err_from_is_err_and}
use Rattle.lam_token.specs.declared.kind.Kind.TheVariants as kind
use Rattle.lam_syntax.specs.inner.Run.{for_let, of_lambda, of_letrec, in_lambda, in_condition, in_then, in_else, in_let, in_let_body, in_letrec, in_letrec_body, in_field, next_field, after_label, as_argument, after_binder, ended_type, ended_term, ended_app, run, look}
use Rattle.lam_syntax.specs.Trees.{word, no_fields}
use Rattle.lam_syntax.specs.Views.{bound_of, type_of, term_of, fields_of}
use Rattle.lam_syntax.specs.inner.Reads.{placed, fields_next}
use Rattle.lam_syntax.proofs.Ends.{argument_begun}
use Rattle.lam_syntax.proofs.Steps.{reads_stop, reads_same, behind_front, behind_none, behind_stop, behind_read, some_fields, field_label_stop, no_equals, placed_app, no_word, no_lambda_dot, no_let_equals, no_let_in, no_letrec_equals, no_letrec_in, no_then, no_else}
use Rattle.lam_syntax.proofs.parse_terms.+terms.Goals as goal

pub parse_record-returns-in_err-field-clause-read : goal.parse_record-returns-in_err-field-clause-read
parse_record-returns-in_err-field-clause-read t c =
    let p = err_from_is_err_and c.from_residual.result c.from_residual.ensures.1 in
    rw (p.1, p.2)
    (λ k. reads_stop c.in_err-field.field-0.0 _ _ _ _ (some_fields _ _ k c.in_default.ensures.takes) (c.in_err-field.ensures.read c.args.first no_fields k))

pub parse_record-loop-next-init : goal.parse_record-loop-next-init
parse_record-loop-next-init t c =
    let items = c.in_ok-push.ensures.items ∙ ap (λ l. l ++ c.in_ok-field.field ∷ _) c.new-fields.ensures.items in
    record {
      read = λ k.
          some_fields _ _ k c.in_default.ensures.takes
          ∙ c.in_ok-field.ensures.read c.args.first no_fields k
          ∙ ap (λ fs. look c.in_ok-field.rest.now (λ o. fields_next o c.args.first fs k)) (sym (ap fields_of items));
      shorter = c.in_ok-field.ensures.shorter;
    }

pub parse_field-returns-in_err-label-clause-read : goal.parse_field-returns-in_err-label-clause-read
parse_field-returns-in_err-label-clause-read t c =
    let p = err_from_is_err_and c.from_residual.result c.from_residual.ensures.1 in
    rw (p.1, p.2) (λ s before k. field_label_stop _ c.in_err-label.field-0.0 s before k _ c.in_err-label.ensures.named)

pub parse_field-returns-in_err-term-clause-read : goal.parse_field-returns-in_err-term-clause-read
parse_field-returns-in_err-term-clause-read t c =
    let p = err_from_is_err_and c.from_residual-in_err-term.result c.from_residual-in_err-term.ensures.1 in
    let named = c.in_ok-label.ensures.named in
    rw (p.1, p.2)
    (λ s before k. behind_stop _ kind.Equals c.in_err-term.field-0.0 (in_field s before (word named.0 named.1) k) _ _ (λ ts. run ts (after_label s before (word named.0 named.1) k)) (ap (λ ts. run ts (next_field s before k)) named.2) (no_equals _ s before _ _ k) (λ x e after. refl) c.in_err-term.ensures.read)

-- a term behind a token

pub parse_term_behind-returns-in_err-rest-clause-read : goal.parse_term_behind-returns-in_err-rest-clause-read
parse_term_behind-returns-in_err-rest-clause-read t c =
    let p = err_from_is_err_and c.from_residual.result c.from_residual.ensures.1 in
    rw (p.1, p.2) (behind_none _ _ c.in_err-rest.field-0.0 c.in_err-rest.ensures.expects)

pub parse_term_behind-returns-clause-read : goal.parse_term_behind-returns-clause-read
parse_term_behind-returns-clause-read t c = behind_front _ _ _ _ c.parse_term.result c.in_ok-rest.ensures.expects c.parse_term.ensures.read

-- the terms that begin with a word

pub parse_lambda-returns-in_err-body-clause-read : goal.parse_lambda-returns-in_err-body-clause-read
parse_lambda-returns-in_err-body-clause-read t c =
    let p = err_from_is_err_and c.from_residual-in_err-body.result c.from_residual-in_err-body.ensures.1 in
    let b = bound_of c.in_ok-binder.binder in
    let u = type_of c.in_ok-binder.ty in
    rw (p.1, p.2)
    (λ k. behind_stop _ kind.Dot c.in_err-body.field-0.0 (in_lambda c.args.first b u k) _ _ (λ ts. look ts (λ o. ended_type o u (of_lambda c.args.first b k))) (c.in_ok-binder.ensures.lambda c.args.first k) (no_lambda_dot _ u c.args.first b k) (λ x e after. refl) c.in_err-body.ensures.read)

pub parse_if-returns-in_err-then_term-clause-read : goal.parse_if-returns-in_err-then_term-clause-read
parse_if-returns-in_err-then_term-clause-read t c =
    let p = err_from_is_err_and c.from_residual-in_err-then_term.result c.from_residual-in_err-then_term.ensures.1 in
    let a = term_of c.in_ok-condition.condition in
    rw (p.1, p.2)
    (λ k. behind_stop _ kind.Then c.in_err-then_term.field-0.0 (in_then c.args.first a k) _ _ (λ ts. look ts (λ o. ended_term o a (in_condition c.args.first k))) (c.in_ok-condition.ensures.read (in_condition c.args.first k)) (no_then _ a c.args.first k) (λ x e after. refl) c.in_err-then_term.ensures.read)

pub parse_if-returns-in_err-else_term-clause-read : goal.parse_if-returns-in_err-else_term-clause-read
parse_if-returns-in_err-else_term-clause-read t c =
    let p = err_from_is_err_and c.from_residual-in_err-else_term.result c.from_residual-in_err-else_term.ensures.1 in
    let a = term_of c.in_ok-condition.condition in
    let b = term_of c.in_ok-then_term.then_term in
    rw (p.1, p.2)
    (λ k. behind_stop _ kind.Else c.in_err-else_term.field-0.0 (in_else c.args.first a b k) _ _ (λ ts. look ts (λ o. ended_term o b (in_then c.args.first a k))) (c.in_ok-condition.ensures.read (in_condition c.args.first k) ∙ behind_read _ kind.Then (c.in_ok-then_term.then_term, c.in_ok-then_term.rest) (in_then c.args.first a k) (λ ts. look ts (λ o. ended_term o a (in_condition c.args.first k))) (λ x e after. refl) c.in_ok-then_term.ensures.read) (no_else _ b a c.args.first k) (λ x e after. refl) c.in_err-else_term.ensures.read)

pub parse_let-returns-in_err-bound-clause-read : goal.parse_let-returns-in_err-bound-clause-read
parse_let-returns-in_err-bound-clause-read t c =
    let p = err_from_is_err_and c.from_residual-in_err-bound.result c.from_residual-in_err-bound.ensures.1 in
    let b = bound_of c.in_ok-binder.binder in
    rw (p.1, p.2)
    (λ k. behind_stop _ kind.Equals c.in_err-bound.field-0.0 (in_let c.args.first b k) _ _ (λ ts. run ts (after_binder for_let c.args.first b k)) (c.in_ok-binder.ensures.read for_let c.args.first k) (no_let_equals _ c.args.first b k) (λ x e after. refl) c.in_err-bound.ensures.read)

pub parse_let-returns-in_err-body-clause-read : goal.parse_let-returns-in_err-body-clause-read
parse_let-returns-in_err-body-clause-read t c =
    let p = err_from_is_err_and c.from_residual-in_err-body.result c.from_residual-in_err-body.ensures.1 in
    let b = bound_of c.in_ok-binder.binder in
    let a = term_of c.in_ok-bound.bound in
    rw (p.1, p.2)
    (λ k. behind_stop _ kind.In c.in_err-body.field-0.0 (in_let_body c.args.first b a k) _ _ (λ ts. look ts (λ o. ended_term o a (in_let c.args.first b k))) (c.in_ok-binder.ensures.read for_let c.args.first k ∙ behind_read _ kind.Equals (c.in_ok-bound.bound, c.in_ok-bound.rest) (in_let c.args.first b k) (λ ts. run ts (after_binder for_let c.args.first b k)) (λ x e after. refl) c.in_ok-bound.ensures.read) (no_let_in _ a c.args.first b k) (λ x e after. refl) c.in_err-body.ensures.read)

pub parse_letrec-returns-in_err-bound-clause-read : goal.parse_letrec-returns-in_err-bound-clause-read
parse_letrec-returns-in_err-bound-clause-read t c =
    let p = err_from_is_err_and c.from_residual-in_err-bound.result c.from_residual-in_err-bound.ensures.1 in
    let b = bound_of c.in_ok-binder.binder in
    let u = type_of c.in_ok-binder.ty in
    rw (p.1, p.2)
    (λ k. behind_stop _ kind.Equals c.in_err-bound.field-0.0 (in_letrec c.args.first b u k) _ _ (λ ts. look ts (λ o. ended_type o u (of_letrec c.args.first b k))) (c.in_ok-binder.ensures.letrec c.args.first k) (no_letrec_equals _ u c.args.first b k) (λ x e after. refl) c.in_err-bound.ensures.read)

pub parse_letrec-returns-in_err-body-clause-read : goal.parse_letrec-returns-in_err-body-clause-read
parse_letrec-returns-in_err-body-clause-read t c =
    let p = err_from_is_err_and c.from_residual-in_err-body.result c.from_residual-in_err-body.ensures.1 in
    let b = bound_of c.in_ok-binder.binder in
    let u = type_of c.in_ok-binder.ty in
    let a = term_of c.in_ok-bound.bound in
    rw (p.1, p.2)
    (λ k. behind_stop _ kind.In c.in_err-body.field-0.0 (in_letrec_body c.args.first b u a k) _ _ (λ ts. look ts (λ o. ended_term o a (in_letrec c.args.first b u k))) (c.in_ok-binder.ensures.letrec c.args.first k ∙ behind_read _ kind.Equals (c.in_ok-bound.bound, c.in_ok-bound.rest) (in_letrec c.args.first b u k) (λ ts. look ts (λ o. ended_type o u (of_letrec c.args.first b k))) (λ x e after. refl) c.in_ok-bound.ensures.read) (no_letrec_in _ a c.args.first b u k) (λ x e after. refl) c.in_err-body.ensures.read)

-- an application

pub parse_app-returns-in_err-path-clause-read : goal.parse_app-returns-in_err-path-clause-read
parse_app-returns-in_err-path-clause-read t c =
    let p = err_from_is_err_and c.from_residual.result c.from_residual.ensures.1 in
    rw (p.1, p.2)
    (λ k. reads_stop c.in_err-path.field-0.0 _ _ _ _ (c.take_prefix-prefix.ensures.begun k) (c.in_err-path.ensures.read (placed c.take_prefix-prefix.result.0 k)))

pub parse_app-loop-alloc-init : goal.parse_app-loop-alloc-init
parse_app-loop-alloc-init t c = record {
  read = λ k.
      c.take_prefix-prefix.ensures.begun k
      ∙ c.in_ok-path.ensures.read (placed c.take_prefix-prefix.result.0 k)
      ∙ placed_app c.in_ok-path.rest.now c.take_prefix-prefix.result.0 (term_of c.in_ok-path.path) _ k c.in_ok-head.ensures;
  shorter = omega (arith, c.in_ok-path.ensures.shorter, c.take_prefix-prefix.ensures.shorter);
}

pub parse_app-returns-in_err-argument-clause-read : goal.parse_app-returns-in_err-argument-clause-read
parse_app-returns-in_err-argument-clause-read t c =
    let p = err_from_is_err_and c.from_residual-in_err-argument.result c.from_residual-in_err-argument.ensures.1 in
    rw (p.1, p.2)
    (λ k. reads_stop c.in_err-argument.field-0.0 _ _ _ _ (c.loop-alloc.invariant.read k ∙ argument_begun _ _ k c.loop-alloc-test.ensures) (c.in_err-argument.ensures.read (as_argument (term_of c.loop-alloc.head) k)))

pub parse_app-loop-alloc-preserved : goal.parse_app-loop-alloc-preserved
parse_app-loop-alloc-preserved t c = record {
  read = λ k.
      c.loop-alloc.invariant.read k
      ∙ argument_begun _ _ k c.loop-alloc-test.ensures
      ∙ c.in_ok-argument.ensures.read (as_argument (term_of c.loop-alloc.head) k)
      ∙ ap (λ t. look c.in_ok-argument.after.now (λ o. ended_app o t k)) (sym c.in_ok-head-2.ensures);
  shorter = omega (arith, c.in_ok-argument.ensures.shorter, c.loop-alloc.invariant.shorter);
}

-- any other term is an application
pub parse_term-returns-in_default-kind : goal.parse_term-returns-in_default-kind
parse_term-returns-in_default-kind t c = record {
  read = λ k.
      reads_same c.parse_app.result _ _ _
      (no_word c.in-Some.first.now _ _ k c.in-Some.ensures.cases.0
      (λ e. c.in_default-kind.not-Lambda (c.kind.ensures ∙ e)) (λ e. c.in_default-kind.not-If (c.kind.ensures ∙ e))
      (λ e. c.in_default-kind.not-Let (c.kind.ensures ∙ e)) (λ e. c.in_default-kind.not-Letrec (c.kind.ensures ∙ e)))
      (c.parse_app.ensures.read k);
  shorter = c.parse_app.ensures.shorter;
}
