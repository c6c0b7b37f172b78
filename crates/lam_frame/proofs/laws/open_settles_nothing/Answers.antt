use Rattle.lam_frame.proofs.Readings.{open_settles}
use Rattle.lam_frame.proofs.laws.open_settles_nothing.Goals as goal

pub returns : goal.returns
returns c = open_settles
