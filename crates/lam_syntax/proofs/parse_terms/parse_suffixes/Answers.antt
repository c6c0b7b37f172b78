use Rattle.std.proofs.lemmas.Result.{err_from_is_err_and}
use Rattle.lam_syntax.specs.Views.{term_of}
use Rattle.lam_syntax.proofs.Steps.{dot_label_stop}
use Rattle.lam_syntax.proofs.parse_terms.parse_suffixes.Goals as goal

pub returns-in_err-label-clause-read : goal.returns-in_err-label-clause-read
returns-in_err-label-clause-read c =
    let p = err_from_is_err_and c.from_residual-in_err-label.result c.from_residual-in_err-label.ensures.1 in
    rw (p.1, p.2)
    (λ k. dot_label_stop _ _ _ c.in_err-label.field-0.0 (term_of c.loop-after.path) k _ _ (c.loop-after.invariant.read k) c.in-Some.ensures.takes c.in_err-label.ensures.named)
