use Rattle.lam_rules.specs.TypeViews.{typ_of}
use Rattle.lam_rules.proofs.TypingShapes.{type_in-typing_tree_of}
use Rattle.lam_typing.proofs.BuiltSteps.{sub_widened}
use Rattle.lam_typing.proofs.proving.subsumed.Goals as goal

pub returns : goal.returns
returns c = λ d below.
    sub_widened c.args.proof c.in_ok-ty.ty c.in_ok-typing.typing c.in_ok-sub.sub (typ_of c.args.upper.now) d c.in_ok-typing.ensures.items c.in_ok-ty.ensures
    (rw c.in_ok-sub.ensures.ok (rw (type_in-typing_tree_of c.args.proof) at below))
