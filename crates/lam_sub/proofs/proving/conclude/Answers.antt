use Rattle.lam_rules.specs.TypeViews.{typ_of}
use Rattle.lam_sub.proofs.Steps.{step_made}
use Rattle.lam_sub.proofs.proving.conclude.Goals as goal

pub returns : goal.returns
returns c =
    step_made c.args.rule c.in_ok-lower.lower c.in_ok-upper.upper c.args.premises (typ_of c.args.lower.now) (typ_of c.args.upper.now) c.in_ok-lower.ensures c.in_ok-upper.ensures
