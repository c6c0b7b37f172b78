use Rattle.std.proofs.Common.{[], ◌∷◌}
use Rattle.lam_rules.specs.TermViews.{lent_of, term_of}
use Rattle.lam_rules.specs.TypingSteps.{about}
use Rattle.lam_rules.proofs.TypingSteps.{behind_first}
use Rattle.lam_rules.proofs.parts.of_let.Goals as goal

pub returns : goal.returns
returns c = λ g. behind_first (about g (term_of c.args.bound.now)) (about (lent_of c.args.first ∷ g) (term_of c.args.body.now) ∷ []) c.args.k _ c.if-k-eq0.false (c.only_under.ensures g)
