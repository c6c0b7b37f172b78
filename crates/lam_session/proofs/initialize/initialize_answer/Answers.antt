use Rattle.lam_session.proofs.initialize.initialize_answer.Goals as goal

pub returns : goal.returns
returns c = c.finish.ensures _ (c.value.ensures _ _ c.new.ensures c.capabilities.ensures)
