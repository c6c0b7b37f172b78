use Rattle.std.proofs.Common.{None, refl}
use Rattle.lam_rules.specs.TypeViews.{typ_of}
use Rattle.lam_rules.specs.Typing.{typing_step}
use Rattle.lam_rules.specs.TypingViews.{typings_of}
use Rattle.lam_typing.proofs.BuiltSteps.{step_tree, some_wide, none_wide}
use Rattle.lam_typing.proofs.proving.finish.Goals as goal

pub returns-in_default : goal.returns-in_default
returns-in_default c =
    record { first = tt; wide = none_wide (typing_step c.args.rule (typ_of c.args.conclusion) (typings_of c.args.premises.items) None) (typ_of c.args.ty.now) c.in_ok-proof.field-0 c.args.grounds.now.typing.now.dialect c.in_default.is (rw (step_tree c.args.rule c.args.conclusion c.args.premises None) at c.in_ok-proof.ensures) }

pub returns : goal.returns
returns c =
    record { first = refl; wide = some_wide (typing_step c.args.rule (typ_of c.args.conclusion) (typings_of c.args.premises.items) None) (typ_of c.args.ty.now) c.in_ok-proof.field-0 c.in-Some.proof c.args.grounds.now.typing.now.dialect c.in-Some.is (rw (step_tree c.args.rule c.args.conclusion c.args.premises None) at c.in_ok-proof.ensures) }
