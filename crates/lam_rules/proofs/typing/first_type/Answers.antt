use Rattle.std.proofs.Common.{arith}
use Rattle.lam_rules.proofs.TypingShapes.{typing_shapes}
use Rattle.lam_rules.proofs.typing.first_type.Goals as goal

pub returns-in-Some : goal.returns-in-Some
returns-in-Some c = grind (arith, typing_shapes)
