use Rattle.std.proofs.Common.{sym, ap, ◌∙◌, map}
use Rattle.lam_scope.specs.RowIntervals.{used_at}
use Rattle.lam_scope.specs.TableViews.{text_use}
use Rattle.lam_scope.proofs.RowIntervals.{and_then, first_use}
use Rattle.lam_scope.proofs.scopes.binder_used_at.Goals as goal

pub returns-in-None : goal.returns-in-None
returns-in-None c =
    let us = c.args.uses.now in
    ap (λ n. and_then n (used_at (map text_use us))) (sym c.in-None.is ∙ c.first_with.ensures) ∙ first_use c.args.offset us

pub returns-in-Some : goal.returns-in-Some
returns-in-Some c =
    let us = c.args.uses.now in
    c.used_at.ensures ∙ ap (λ n. and_then n (used_at (map text_use us))) (sym c.in-Some.is ∙ c.first_with.ensures) ∙ first_use c.args.offset us
