use Rattle.lam_sub.proofs.Keeping.{right_kept}
use Rattle.lam_sub.proofs.verdicts.verdicts_stay_right.Goals as goal

pub returns : goal.returns
returns c = right_kept
