use Rattle.lam_query.proofs.KnownCodes.{known_codes}
use Rattle.lam_query.proofs.laws.known_codes.Goals as goal

pub returns : goal.returns
returns c = λ text found d. known_codes text found d
