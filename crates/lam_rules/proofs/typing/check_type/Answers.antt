use Rattle.std.proofs.Common.{arith}
use Rattle.lam_rules.proofs.TypingShapes.{typing_shapes, entries_of-Given}
use Rattle.lam_rules.proofs.typing.check_type.Goals as goal

pub returns-then-not-wf_context : goal.returns-then-not-wf_context
returns-then-not-wf_context c = grind (arith, typing_shapes)

pub returns : goal.returns
returns c = grind (arith, typing_shapes)

pub check_in-requires : goal.check_in-requires
check_in-requires c = grind (arith, entries_of-Given)
