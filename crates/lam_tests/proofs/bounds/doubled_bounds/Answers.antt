use Rattle.lam_tests.proofs.bounds.doubled_bounds.Goals as goal

pub join_no-requires-clause-verdicts_right : goal.join_no-requires-clause-verdicts_right
join_no-requires-clause-verdicts_right g = g.new-verdicts.ensures.right _
