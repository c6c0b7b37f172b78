use Rattle.lam_typing.proofs.proving.finish_over.Goals as goal

pub returns : goal.returns
returns c = rw c.in_ok-premises.ensures.items at c.finish.ensures
