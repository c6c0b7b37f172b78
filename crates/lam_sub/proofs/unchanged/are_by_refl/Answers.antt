use Rattle.std.proofs.Common.{arith}
use Rattle.std.proofs.lemmas.Grind.{common_steps}
use Rattle.lam_rules.proofs.SubShapes.{sub_nodes}
use Rattle.lam_sub.proofs.unchanged.are_by_refl.Goals as goal

pub returns-then-ne : goal.returns-then-ne
returns-then-ne c = grind (arith, sub_nodes)

pub loop-proof-preserved : goal.loop-proof-preserved
loop-proof-preserved c = grind (arith, sub_nodes)

pub returns : goal.returns
returns c = grind (arith, common_steps)
