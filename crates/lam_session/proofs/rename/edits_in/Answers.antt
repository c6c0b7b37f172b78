use Rattle.lam_session.proofs.rename.edits_in.Goals as goal

pub returns : goal.returns
returns c =
    let changes = c.finish.ensures _ (c.value-changes.ensures _ _ c.new.ensures c.from.ensures) in
    c.finish-2.ensures _ (c.value.ensures _ _ c.new-2.ensures changes)
