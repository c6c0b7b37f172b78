use Rattle.lam_rpc.proofs.KindLaws as laws
use Rattle.lam_rpc.proofs.laws.some_kind.Goals as goal

pub returns : goal.returns
returns c = laws.some_kind
