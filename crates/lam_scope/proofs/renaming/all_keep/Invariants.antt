use Rattle.std.proofs.Common.{◌≡◌, map, drop}
use Rattle.std.specs.List.{list_all}
use Rattle.std.specs.Option.{option_map}
use Rattle.lam_scope.specs.TableViews.{binder_number, text_binder, text_use}
use Rattle.lam_scope.specs.inner.Bearers.{keeps}
use Rattle.lam_scope.proofs.renaming.all_keep.Given as goal

abbrev pub invariant-loop-i : goal.invariant-loop-i
invariant-loop-i l =
    list_all (keeps l.answer.0 l.new (map text_binder l.binders) (map (option_map binder_number) l.told)) (map text_use (drop l.i l.uses))
    ≡ list_all (keeps l.answer.0 l.new (map text_binder l.binders) (map (option_map binder_number) l.told)) (map text_use l.uses)
