use Rattle.lam_scope.proofs.Faultless.{faultless_expanded}
use Rattle.lam_scope.proofs.laws.faultless_is_expanded.Goals as goal

pub returns : goal.returns
returns c = faultless_expanded
