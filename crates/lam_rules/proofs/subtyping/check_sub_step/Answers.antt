use Rattle.std.proofs.Common.{arith}
use Rattle.lam_rules.proofs.SubShapes.{sub_nodes}
use Rattle.lam_rules.proofs.subtyping.check_sub_step.Goals as goal

pub returns-then-not-wf : goal.returns-then-not-wf
returns-then-not-wf c = grind (arith, sub_nodes)

pub returns-then-not-wf-2 : goal.returns-then-not-wf-2
returns-then-not-wf-2 c = grind (arith, sub_nodes)

pub returns-then-not-is_rule_of : goal.returns-then-not-is_rule_of
returns-then-not-is_rule_of c = grind (arith, sub_nodes)

pub returns : goal.returns
returns c = grind (arith, sub_nodes)
