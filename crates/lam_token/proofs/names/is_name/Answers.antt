use Rattle.std.proofs.Common.{refl}
use Rattle.lam_token.proofs.Cuts.{name_shape}
use Rattle.lam_token.proofs.names.is_name.Goals as goal

pub returns-in-Name : goal.returns-in-Name
returns-in-Name c = (λ is. name_shape _ _ c.in-Some.ensures c.in-Name.is, λ shape. refl)
