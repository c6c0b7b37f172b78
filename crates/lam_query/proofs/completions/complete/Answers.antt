use Rattle.lam_query.proofs.completions.complete.Goals as goal

pub returns : goal.returns
returns c = rw c.in_ok-new.ensures.dialect at c.complete.ensures
