use Rattle.lam_frame.proofs.Readings.{reads_one_way}
use Rattle.lam_frame.proofs.laws.one_reading.Goals as goal

pub returns : goal.returns
returns c = reads_one_way
