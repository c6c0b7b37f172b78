use Rattle.lam_session.proofs.values.derivations.entry_value.Goals as goal

pub returns : goal.returns
returns c = c.finish.ensures _ (c.value.ensures _ _ (rw c.as_str.ensures.value at (c.text.ensures _ c.new.ensures)) c.type_value.ensures)
