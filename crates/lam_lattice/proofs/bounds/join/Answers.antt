use Rattle.lam_lattice.proofs.bounds.join.Goals as goal

pub join_no-requires-clause-verdicts_right : goal.join_no-requires-clause-verdicts_right
join_no-requires-clause-verdicts_right c = c.new-verdicts.ensures.right c.add-2.new.self
