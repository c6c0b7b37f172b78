use Rattle.lam_query.proofs.Innermost.{innermost_shown}
use Rattle.lam_query.proofs.laws.shown_is_innermost.Goals as goal

pub returns : goal.returns
returns c = innermost_shown
