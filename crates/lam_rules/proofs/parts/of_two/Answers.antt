use Rattle.std.proofs.Common.{[], ◌∷◌}
use Rattle.lam_rules.specs.TermViews.{term_of}
use Rattle.lam_rules.specs.TypingSteps.{about}
use Rattle.lam_rules.proofs.TypingSteps.{behind_first}
use Rattle.lam_rules.proofs.parts.of_two.Goals as goal

pub returns : goal.returns
returns c = λ g. behind_first (about g (term_of c.args.first.now)) (about g (term_of c.args.second.now) ∷ []) c.args.k _ c.if-k-eq0.false (c.only.ensures g)
