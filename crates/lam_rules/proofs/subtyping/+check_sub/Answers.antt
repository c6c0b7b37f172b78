use Rattle.std.proofs.Common.{arith}
use Rattle.lam_rules.proofs.SubShapes.{sub_nodes}
use Rattle.std.proofs.lemmas.Grind.{common_steps}
use Rattle.lam_rules.proofs.subtyping.+check_sub.Goals as goal

pub check_sub-returns-then-not-check_sub_step : goal.check_sub-returns-then-not-check_sub_step
check_sub-returns-then-not-check_sub_step t c = grind (arith, sub_nodes)

pub check_sub-returns : goal.check_sub-returns
check_sub-returns t c = grind (arith, sub_nodes)

pub check_subs-returns-then-not-check_sub : goal.check_subs-returns-then-not-check_sub
check_subs-returns-then-not-check_sub t c = grind (arith, sub_nodes)

pub check_subs-loop-proof-preserved : goal.check_subs-loop-proof-preserved
check_subs-loop-proof-preserved t c = grind (arith, sub_nodes)

pub check_subs-returns : goal.check_subs-returns
check_subs-returns t c = grind (arith, common_steps)
