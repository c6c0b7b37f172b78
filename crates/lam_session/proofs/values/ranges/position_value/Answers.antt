use Rattle.lam_session.proofs.values.ranges.position_value.Goals as goal

pub returns : goal.returns
returns c = c.finish.ensures _ (c.value-2.ensures _ _ (c.value.ensures _ _ c.new.ensures c.from.ensures) c.from-2.ensures)
