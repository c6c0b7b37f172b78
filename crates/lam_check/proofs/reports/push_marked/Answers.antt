use Rattle.lam_check.specs.Reports.{marked}
use Rattle.lam_check.proofs.Writing.{two_written}
use Rattle.lam_check.proofs.reports.push_marked.Goals as goal

pub returns : goal.returns
unfolding marked
returns c = two_written c.push_mismatch.result _ _ _ _ _ c.in_ok-push_excerpt.ensures c.push_mismatch.ensures
