use Rattle.lam_scope.proofs.NestedRows.{spelled_nest, first_is_innermost}
use Rattle.lam_scope.proofs.laws.innermost_place.Goals as goal

pub returns : goal.returns
returns c = record { spelled = spelled_nest; innermost = first_is_innermost }
