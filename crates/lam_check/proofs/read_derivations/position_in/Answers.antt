use Rattle.serde_json.specs.Data.{number, unsigned}
use Rattle.lam_check.proofs.read_derivations.position_in.Goals as goal

pub returns-in_default-clause-none : goal.returns-in_default-clause-none
returns-in_default-clause-none c = λ p is. c.in_default.ensures.none (number (unsigned p.character)) (number (unsigned p.line)) is
