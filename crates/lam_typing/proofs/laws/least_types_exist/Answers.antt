use Rattle.lam_typing.proofs.Existing.{exists_at}
use Rattle.lam_typing.proofs.laws.least_types_exist.Goals as goal

pub returns : goal.returns
returns c = λ s e d ws we. exists_at d s e ws we
