use Rattle.lam_rpc.proofs.KindLaws as laws
use Rattle.lam_rpc.proofs.laws.one_kind.Goals as goal

pub returns : goal.returns
returns c = laws.one_kind
