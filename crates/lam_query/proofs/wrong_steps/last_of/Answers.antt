use Rattle.std.proofs.Common.{arith}
use Rattle.lam_query.proofs.PendingProofs.{last_of_more}
use Rattle.lam_query.proofs.wrong_steps.last_of.Goals as goal

pub returns-in-Some : goal.returns-in-Some
returns-in-Some c = grind (arith, last_of_more)
