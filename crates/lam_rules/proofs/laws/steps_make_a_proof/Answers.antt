use Rattle.lam_rules.proofs.TypingSteps.{by_parts}
use Rattle.lam_rules.proofs.laws.steps_make_a_proof.Goals as goal

pub returns-clause-typing : goal.returns-clause-typing
returns-clause-typing c = by_parts

pub returns-clause-subtyping : goal.returns-clause-subtyping
returns-clause-subtyping c = λ rule s t premises d. (λ h. ((h.0, h.1, h.2, h.3), h.4), λ h. (h.0.0, h.0.1, h.0.2, h.0.3, h.1))
