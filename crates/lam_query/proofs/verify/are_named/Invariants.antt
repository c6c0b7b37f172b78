use Rattle.std.proofs.Common.{◌≡◌, map, take}
use Rattle.lam_scope.specs.Names.{shown_name}
use Rattle.lam_scope.specs.Tables.{binder_numbered}
use Rattle.lam_scope.specs.Views.{table_of}
use Rattle.lam_query.specs.Views.{entry_of}
use Rattle.lam_query.proofs.verify.are_named.Given as goal

abbrev pub invariant-loop-i : goal.invariant-loop-i
invariant-loop-i l = map (λ e. (entry_of e).name) (take l.i l.context) ≡ map (λ b. shown_name (binder_numbered (table_of l.scopes) b.0).name) (take l.i l.binders)
