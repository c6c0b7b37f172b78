use Rattle.lam_token.proofs.SomeCut.{some_cut}
use Rattle.lam_token.proofs.laws.some_cut.Goals as goal

pub returns : goal.returns
returns c = some_cut
