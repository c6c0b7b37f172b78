use Rattle.lam_bench.proofs.types.join_and_meet.Goals as goal

pub join_no-requires-clause-verdicts_right : goal.join_no-requires-clause-verdicts_right
join_no-requires-clause-verdicts_right c = c.new-verdicts.ensures.right _
