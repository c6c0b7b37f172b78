use Rattle.lam_typing.proofs.Narrows.{narrows}
use Rattle.lam_typing.proofs.laws.narrowing.Goals as goal

pub returns : goal.returns
returns c = narrows
