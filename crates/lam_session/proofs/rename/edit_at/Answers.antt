use Rattle.lam_session.proofs.rename.edit_at.Goals as goal

pub returns : goal.returns
returns c = c.finish.ensures _ (c.value.ensures _ _ (c.text.ensures _ c.new.ensures) c.written_range.ensures)
