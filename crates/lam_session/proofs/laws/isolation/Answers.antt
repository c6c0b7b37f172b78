use Rattle.lam_session.proofs.AloneRuns as laws
use Rattle.lam_session.proofs.TwoRuns.{agree_about}
use Rattle.lam_session.proofs.laws.isolation.Goals as goal

pub returns : goal.returns
returns c = record { alone = laws.isolated; untold = laws.untold; both = agree_about }
