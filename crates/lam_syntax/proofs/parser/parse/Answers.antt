use Rattle.lam_syntax.proofs.Complete.{one_tree}
use Rattle.lam_syntax.proofs.Answer.{not_both}
use Rattle.lam_syntax.proofs.Sound.{sound}
use Rattle.lam_syntax.proofs.parser.parse.Goals as goal

pub returns-in-Ok-clause-spelled : goal.returns-in-Ok-clause-spelled
returns-in-Ok-clause-spelled c = sound _ _ c.in-Ok.ensures

pub returns-in-Ok-clause-only : goal.returns-in-Ok-clause-only
returns-in-Ok-clause-only c = λ d spells. one_tree spells (sound _ _ c.in-Ok.ensures)

pub returns-in-Ok-clause-accepts : goal.returns-in-Ok-clause-accepts
returns-in-Ok-clause-accepts c = λ d taken spells. one_tree (sound _ _ c.in-Ok.ensures) spells

pub returns-in-Err-At-clause-accepts : goal.returns-in-Err-At-clause-accepts
returns-in-Err-At-clause-accepts c = λ d taken spells. absurd (not_both _ _ _ spells (rw c.in-Err-At.field-0-is at c.in-Err-At.ensures))
