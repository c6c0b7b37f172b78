use Rattle.lam_token.proofs.Divided.{divided_from, divided, divided_only, divided_after}
use Rattle.lam_token.proofs.laws.a_semicolon_divides.Goals as goal

pub returns-clause-joined : goal.returns-clause-joined
returns-clause-joined c = divided

pub returns-clause-only : goal.returns-clause-only
returns-clause-only c = divided_only

pub returns-clause-part : goal.returns-clause-part
returns-clause-part c = divided_from

pub returns-clause-after : goal.returns-clause-after
returns-clause-after c = divided_after
