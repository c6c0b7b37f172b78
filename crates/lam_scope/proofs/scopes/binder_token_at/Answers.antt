use Rattle.std.proofs.Common.{sym, ap, ◌∙◌, map}
use Rattle.lam_scope.specs.RowIntervals.{answer_at}
use Rattle.lam_scope.specs.TableViews.{text_binder}
use Rattle.lam_scope.proofs.RowIntervals.{and_then, first_token}
use Rattle.lam_scope.proofs.scopes.binder_token_at.Goals as goal

pub returns-in-None : goal.returns-in-None
returns-in-None c =
    let bs = c.args.binders.now in
    ap (λ n. and_then n (answer_at (map text_binder bs))) (sym c.in-None.is ∙ c.first_with.ensures) ∙ first_token c.args.offset bs

pub returns-in-Some : goal.returns-in-Some
returns-in-Some c =
    let bs = c.args.binders.now in
    c.answer_at.ensures ∙ ap (λ n. and_then n (answer_at (map text_binder bs))) (sym c.in-Some.is ∙ c.first_with.ensures) ∙ first_token c.args.offset bs
