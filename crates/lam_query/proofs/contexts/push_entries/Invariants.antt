use Rattle.std.proofs.Common.{◌≡◌, ◌++◌, map, drop}
use Rattle.lam_query.specs.inner.Contexts.{entry_shown}
use Rattle.lam_query.specs.Views.{entry_of}
use Rattle.lam_query.proofs.contexts.push_entries.Given as goal

abbrev pub invariant-loop-i : goal.invariant-loop-i
invariant-loop-i l =
    map entry_of l.context.items ++ map (entry_shown l.table) (drop l.i l.binders)
    ≡ map entry_of l.initial.context.items ++ map (entry_shown l.table) l.binders
