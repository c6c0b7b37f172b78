use Rattle.std.proofs.Common.{◌≡◌, ◌++◌, ◌-◌, length, map}
use Rattle.std.specs.Option.{option_map}
use Rattle.lam_scope.specs.Tables.{seen_in}
use Rattle.lam_scope.specs.TableViews.{text_binder, binder_number}
use Rattle.lam_scope.proofs.scopes.chain.Given as goal

abbrev pub invariant-loop-i : goal.invariant-loop-i
invariant-loop-i l =
    map binder_number l.found.items ++ seen_in (map text_binder l.binders) (length l.binders - l.i) (option_map binder_number l.next)
    ≡ seen_in (map text_binder l.binders) (length l.binders) (option_map binder_number l.fn.first)
