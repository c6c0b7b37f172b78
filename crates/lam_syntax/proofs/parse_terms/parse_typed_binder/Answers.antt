use Rattle.std.proofs.lemmas.Result.{err_from_is_err_and}
use Rattle.lam_token.specs.declared.kind.Kind.TheVariants as kind
use Rattle.lam_syntax.specs.inner.Run.{for_lambda, for_letrec, after_binder, run}
use Rattle.lam_syntax.specs.Views.{bound_of}
use Rattle.lam_syntax.proofs.Steps.{expect_stop, no_lambda_colon, no_letrec_colon}
use Rattle.lam_syntax.proofs.parse_terms.parse_typed_binder.Goals as goal

pub returns-in_err-rest-clause-lambda : goal.returns-in_err-rest-clause-lambda
returns-in_err-rest-clause-lambda c =
    let p = err_from_is_err_and c.from_residual-in_err-rest.result c.from_residual-in_err-rest.ensures.1 in
    let b = bound_of c.in_ok-binder.binder in
    rw (p.1, p.2)
    (λ s k. expect_stop _ kind.Colon c.in_err-rest.field-0.0 _ _ (λ ts. run ts (after_binder for_lambda s b k)) (c.in_ok-binder.ensures.read for_lambda s k) (no_lambda_colon _ s b k) c.in_err-rest.ensures.expects)

pub returns-in_err-rest-clause-letrec : goal.returns-in_err-rest-clause-letrec
returns-in_err-rest-clause-letrec c =
    let p = err_from_is_err_and c.from_residual-in_err-rest.result c.from_residual-in_err-rest.ensures.1 in
    let b = bound_of c.in_ok-binder.binder in
    rw (p.1, p.2)
    (λ s k. expect_stop _ kind.Colon c.in_err-rest.field-0.0 _ _ (λ ts. run ts (after_binder for_letrec s b k)) (c.in_ok-binder.ensures.read for_letrec s k) (no_letrec_colon _ s b k) c.in_err-rest.ensures.expects)
