use Rattle.lam_syntax.proofs.Steps.{no_ascription}
use Rattle.lam_syntax.proofs.parse_terms.parse_ascription.Goals as goal

pub returns-in_default-clause-read : goal.returns-in_default-clause-read
returns-in_default-clause-read c = λ k. no_ascription _ _ k c.in_default.ensures.takes
