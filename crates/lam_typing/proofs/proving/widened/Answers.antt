use Rattle.lam_rules.proofs.TypingShapes.{type_in-typing_tree_of}
use Rattle.lam_typing.proofs.BuiltSteps.{some_holds}
use Rattle.lam_typing.proofs.proving.widened.Goals as goal

pub returns : goal.returns
returns c = c.in_ok-step.ensures c.args.dialect (rw (type_in-typing_tree_of c.args.proof) (some_holds c.in_ok-sub.field-0 c.in-Some.sub _ c.in-Some.is c.in_ok-sub.ensures.some))
