use Rattle.lam_session.proofs.OneAnswer as laws
use Rattle.lam_session.proofs.laws.one_run.Goals as goal

pub returns : goal.returns
returns c = laws.one_run
