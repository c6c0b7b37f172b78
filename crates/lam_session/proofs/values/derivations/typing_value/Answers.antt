use Rattle.lam_session.proofs.values.derivations.typing_value.Goals as goal

pub returns : goal.returns
returns c =
    c.finish.ensures _ (c.value-3.ensures _ _ (rw c.name.ensures at (c.text.ensures _ (c.value-2.ensures _ _ (c.value.ensures _ _ c.new.ensures c.premises_value.ensures) c.range_value.ensures))) c.text_value.ensures)
