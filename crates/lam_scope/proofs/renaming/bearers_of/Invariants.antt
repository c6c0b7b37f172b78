use Rattle.std.proofs.Common.{◌≡◌, map, drop}
use Rattle.std.specs.Option.{option_map}
use Rattle.lam_scope.specs.TableViews.{binder_number, text_binder}
use Rattle.lam_scope.specs.inner.Bearers.{bearers_behind, bearers}
use Rattle.lam_scope.proofs.renaming.bearers_of.Given as goal

abbrev pub invariant-loop-i : goal.invariant-loop-i
invariant-loop-i l =
    bearers_behind l.answer.0 l.new (map (option_map binder_number) l.found.items) (map text_binder (drop l.i l.binders)) ≡ bearers l.answer.0 l.new (map text_binder l.binders)
