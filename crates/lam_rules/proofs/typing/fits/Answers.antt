use Rattle.std.proofs.Common.{arith}
use Rattle.lam_rules.proofs.TypingShapes.{typing_steps}
use Rattle.lam_rules.proofs.RuleForms.{only_sub}
use Rattle.lam_rules.proofs.typing.fits.Goals as goal

pub returns-then-not-wf : goal.returns-then-not-wf
returns-then-not-wf c = grind (arith, typing_steps)

pub returns-in-Sub : goal.returns-in-Sub
returns-in-Sub c = grind (arith, typing_steps)

pub returns-in_default : goal.returns-in_default
returns-in_default c = grind (arith, typing_steps, only_sub)

pub returns-in-None : goal.returns-in-None
returns-in-None c = grind (arith, typing_steps)
