use Rattle.lam_frame.proofs.Written.{is_read_back}
use Rattle.lam_frame.proofs.laws.written_is_read.Goals as goal

pub returns : goal.returns
returns c = is_read_back
