use Rattle.lam_scope.proofs.TableRows.{new_binder}
use Rattle.lam_scope.proofs.rows.Rows.add_binder.Goals as goal

pub returns-clause-table : goal.returns-clause-table
returns-clause-table c = new_binder _ _ _ _ _ _ _ _ c.in_ok-push.ensures.items c.in_ok-copy.ensures c.innermost-outer.ensures
