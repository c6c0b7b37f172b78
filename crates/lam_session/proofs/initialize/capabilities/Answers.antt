use Rattle.lam_session.proofs.initialize.capabilities.Goals as goal

pub returns : goal.returns
returns c =
    let before = rw c.encoding_name.ensures at (c.text.ensures _ (c.value-3.ensures _ _ (c.value-2.ensures _ _ (c.value.ensures _ _ c.new.ensures c.completion_options.ensures) c.from.ensures) c.from-2.ensures)) in
    c.finish.ensures _ (c.value-6.ensures _ _ (c.value-5.ensures _ _ (c.value-4.ensures _ _ before c.from-3.ensures) c.from-4.ensures) c.document_sync.ensures)
