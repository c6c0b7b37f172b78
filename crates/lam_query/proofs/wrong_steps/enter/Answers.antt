use Rattle.std.proofs.Common.{arith}
use Rattle.lam_query.proofs.PendingProofs.{context_more}
use Rattle.lam_query.proofs.wrong_steps.enter.Goals as goal

pub returns-in_ok-push-in-Under-clause-subject : goal.returns-in_ok-push-in-Under-clause-subject
returns-in_ok-push-in-Under-clause-subject c = grind (arith, context_more)

pub returns-in_ok-push-in-Under-clause-well_formed : goal.returns-in_ok-push-in-Under-clause-well_formed
returns-in_ok-push-in-Under-clause-well_formed c = grind (arith, context_more)
