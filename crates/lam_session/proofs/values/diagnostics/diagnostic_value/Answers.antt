use Rattle.lam_session.proofs.values.diagnostics.diagnostic_value.Goals as goal

pub returns : goal.returns
returns c =
    c.finish.ensures _
    (c.text-3.ensures _
    (c.value-2.ensures _ _ (c.value.ensures _ _ (rw c.message_of.ensures at (c.text-2.ensures _ (c.text.ensures _ c.new.ensures))) c.written_range.ensures) c.from.ensures))
