use Rattle.lam_scope.proofs.Lookups.{bound_by_index, unbound_by_index}
use Rattle.lam_scope.proofs.laws.one_binder.Goals as goal

pub returns : goal.returns
returns c = record { bound = λ x seen n e found is. (bound_by_index x seen n e found is).1; unbound = unbound_by_index }
