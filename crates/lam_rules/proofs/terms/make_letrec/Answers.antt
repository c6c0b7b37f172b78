use Rattle.std.proofs.Common.{arith}
use Rattle.lam_rules.proofs.TermShapes.{term_of-Let}
use Rattle.lam_rules.proofs.terms.make_letrec.Goals as goal

pub returns : goal.returns
returns c = grind (arith, term_of-Let)
