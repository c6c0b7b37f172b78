use Rattle.lam_scope.proofs.ScopeBindings.{visible_names, visible_bindings, sight_origins}
use Rattle.lam_scope.proofs.laws.one_scope.Goals as goal

pub returns : goal.returns
returns c = record { names = visible_names; bindings = visible_bindings; origins = sight_origins }
