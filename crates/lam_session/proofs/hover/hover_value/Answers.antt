use Rattle.lam_session.proofs.hover.hover_value.Goals as goal

pub returns : goal.returns
returns c = rw c.in-Some.is (c.finish.ensures _ (c.value-2.ensures _ _ (c.value.ensures _ _ c.new.ensures c.plain_contents.ensures) c.range_value.ensures))
