use Rattle.std.proofs.Common.{refl}
use Rattle.lam_token.proofs.Cuts.{type_name_shape}
use Rattle.lam_token.proofs.names.is_type_name.Goals as goal

pub returns-in-TypeName : goal.returns-in-TypeName
returns-in-TypeName c = (λ is. type_name_shape _ _ c.in-Some.ensures c.in-TypeName.is, λ shape. refl)
