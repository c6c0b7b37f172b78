use Rattle.std.proofs.Common.{arith}
use Rattle.lam_rules.proofs.TypingShapes.{typing_shapes}
use Rattle.lam_rules.proofs.typing.+is_entry.Goals as goal

pub returns-then-index-eq0 : goal.returns-then-index-eq0
returns-then-index-eq0 t c = grind (arith, typing_shapes)

pub returns-in-Given : goal.returns-in-Given
returns-in-Given t c = grind (arith, typing_shapes)

pub returns-else-index-eq0 : goal.returns-else-index-eq0
returns-else-index-eq0 t c = grind (arith, typing_shapes)
