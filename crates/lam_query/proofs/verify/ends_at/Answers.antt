use Rattle.std.proofs.Common.{◌≡◌, Some, None, true, false, ap, sym, ◌∙◌}
use Rattle.lam_token.specs.declared.span.Span.{Span}
use Rattle.lam_scope.specs.Tables.{place_row_numbered}
use Rattle.lam_scope.specs.Views.{table_of}
use Rattle.lam_query.proofs.Verifying.{never, last_found}
use Rattle.lam_query.proofs.verify.ends_at.Goals as goal

pub returns-then-is_derived : goal.returns-then-is_derived
returns-then-is_derived c = (
  λ b. never b,
  λ is. (let clash : true ≡ false = sym c.if-is_derived.true ∙ c.is_derived.ensures ∙ is.0 in absurd cc),
)

pub returns-in-Some : goal.returns-in-Some
returns-in-Some c =
    let last = last_found c.args.steps.now (Some c.in-Some.step.now) c.in-Some.ensures.value in
    let same = ap (λ (s : Span). Some s) c.span_of.ensures in
    (λ b. (sym c.is_derived.ensures ∙ c.if-is_derived.false, last ∙ c.is_at.ensures.0 b ∙ same), λ is. c.is_at.ensures.1 (sym last ∙ is.1 ∙ sym same))

pub returns-in-None : goal.returns-in-None
returns-in-None c =
    let last = last_found c.args.steps.now None c.in-None.ensures.value in (
      λ b. never b,
      λ is. (let clash : None ≡ Some (place_row_numbered (table_of c.args.scopes.now) c.args.place.0).span = sym last ∙ is.1 in absurd cc),
    )
