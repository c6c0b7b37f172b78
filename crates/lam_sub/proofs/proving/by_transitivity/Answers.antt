use Rattle.lam_sub.proofs.Steps.{chained, chain_made}
use Rattle.lam_sub.proofs.proving.by_transitivity.Goals as goal

pub returns : goal.returns
returns c = λ s u t d one other.
    chained c.args.first c.args.second c.in_ok-lower.lower c.in_ok-upper.upper _ s u t d c.in_ok-lower.ensures c.in_ok-upper.ensures
    (chain_made c.in_ok-lower.lower c.in_ok-upper.upper c.in_ok-premises.premises c.args.first c.args.second c.in_ok-premises.ensures.items) one other
