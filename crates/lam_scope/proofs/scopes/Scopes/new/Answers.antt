use Rattle.lam_scope.proofs.scopes.Scopes.new.Goals as goal

pub invariant_of-result : goal.invariant_of-result
invariant_of-result c = record {
  places_run = (rw c.deref.ensures.value at c.in_ok-place_runs.ensures);
  binders_run = (rw c.deref-2.ensures.value at c.in_ok-binder_runs.ensures);
  uses_run = (rw c.deref-3.ensures.value at c.in_ok-use_runs.ensures);
}
