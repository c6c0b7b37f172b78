use Rattle.lam_tests.proofs.subtyping.numbers_below.Goals as goal

pub is_sub_no-requires-clause-right : goal.is_sub_no-requires-clause-right
is_sub_no-requires-clause-right g = g.new-verdicts.ensures.right _
