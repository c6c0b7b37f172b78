use Rattle.lam_query.proofs.OwnDerivations.{own_verified}
use Rattle.lam_query.proofs.Verifying.{if_ok}
use Rattle.lam_check.proofs.drawings.derivation_at.Goals as goal

pub returns-clause-verified : goal.returns-clause-verified
returns-clause-verified c = if_ok c.derivation.result (λ found h. own_verified c.args.text.now _ found c.args.dialect h) c.derivation.ensures.derived
