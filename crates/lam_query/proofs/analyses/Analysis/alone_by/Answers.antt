use Rattle.std.proofs.Common.{refl}
use Rattle.lam_query.proofs.StandInsMade.{alone_made}
use Rattle.lam_query.proofs.analyses.Analysis.alone_by.Goals as goal

pub returns : goal.returns
returns c = λ s are. alone_made s c.args.command _ _ (c.in_ok-alone.ensures s are) c.in_ok-push.ensures.items refl
