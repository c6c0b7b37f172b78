use Rattle.std.proofs.Common.{arith}
use Rattle.lam_rules.proofs.TermShapes.{term_of-Fix, term_of-Abs}
use Rattle.lam_rules.proofs.terms.make_fixed.Goals as goal

pub returns : goal.returns
returns c = grind (arith, term_of-Fix, term_of-Abs)
