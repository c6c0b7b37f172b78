use Rattle.std.proofs.Common.{arith}
use Rattle.lam_rules.proofs.TypingShapes.{entries_of-Given}
use Rattle.lam_rules.proofs.typing.check_type_step.Goals as goal

pub returns : goal.returns
returns c = grind (arith, entries_of-Given)
