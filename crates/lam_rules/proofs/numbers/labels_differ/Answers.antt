use Rattle.std.proofs.Common.{arith}
use Rattle.std.proofs.lemmas.Grind.{common_steps}
use Rattle.lam_rules.proofs.TableFields.{distinct_drop}
use Rattle.lam_rules.proofs.numbers.labels_differ.Goals as goal

pub returns-then-not-is_not_among : goal.returns-then-not-is_not_among
returns-then-not-is_not_among c = grind (arith, common_steps, distinct_drop)

pub loop-i-preserved : goal.loop-i-preserved
loop-i-preserved c = grind (arith, common_steps, distinct_drop)

pub returns : goal.returns
returns c = grind (arith, common_steps)
