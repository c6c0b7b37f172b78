use Rattle.lam_frame.proofs.Readings.{has_reading}
use Rattle.lam_frame.proofs.laws.some_reading.Goals as goal

pub returns : goal.returns
returns c = has_reading
