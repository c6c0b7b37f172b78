use Rattle.std.proofs.lemmas.Result.{err_from_is_err_and}
use Rattle.lam_syntax.proofs.Steps.{abbreviation_stop}
use Rattle.lam_syntax.proofs.parser.parse_abbreviation.Goals as goal

pub returns-in_err-rest : goal.returns-in_err-rest
returns-in_err-rest c =
    let p = err_from_is_err_and c.from_residual.result c.from_residual.ensures.1 in
    rw (p.1, p.2) (abbreviation_stop _ c.in_err-rest.field-0.0 _ c.in_err-rest.ensures.expects)
