use Rattle.lam_session.proofs.values.ranges.written_range.Goals as goal

pub returns : goal.returns
returns c = c.finish.ensures _ (c.value-2.ensures _ _ (c.value.ensures _ _ c.new.ensures c.position_value.ensures) c.position_value-2.ensures)
