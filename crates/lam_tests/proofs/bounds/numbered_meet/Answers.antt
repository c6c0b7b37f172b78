use Rattle.lam_tests.proofs.bounds.numbered_meet.Goals as goal

pub meet_no-requires-clause-verdicts_right : goal.meet_no-requires-clause-verdicts_right
meet_no-requires-clause-verdicts_right g = g.new-verdicts.ensures.right _
