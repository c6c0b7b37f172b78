use Rattle.std.proofs.Common.{◌≡◌, length, map, drop}
use Rattle.lam_syntax.specs.Views.{command_of}
use Rattle.lam_scope.specs.Tables.{◌⊕◌, commands_table, table}
use Rattle.lam_scope.specs.TableViews.{rows_of}
use Rattle.lam_scope.proofs.binding.walk_commands.Given as goal

abbrev pub invariant-loop-i : goal.invariant-loop-i
invariant-loop-i l =
    rows_of l.rows ⊕ commands_table l.types l.names (length l.rows.binders.items) (length l.rows.places.items) l.i (map command_of (drop l.i l.commands))
    ≡ table (map command_of l.commands)
