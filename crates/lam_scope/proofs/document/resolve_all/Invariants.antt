use Rattle.std.proofs.Common.{◌≡◌, ◌++◌, [], map, drop}
use Rattle.lam_syntax.specs.Views.{command_of}
use Rattle.lam_scope.specs.Indexed.{statements_indexed}
use Rattle.lam_scope.specs.Nameless.{statements, faults, first_too_large}
use Rattle.lam_scope.specs.Views.{statement_of, abbreviations_of}
use Rattle.lam_scope.proofs.document.resolve_all.Given as goal

abbrev pub invariant-loop-i : goal.invariant-loop-i
invariant-loop-i l = record {
  statements : map statement_of l.resolver.statements.items ++ statements_indexed (abbreviations_of l.resolver.abbreviations) (map command_of (drop l.i l.commands)) l.resolver.forming.uses
      ≡ statements [] [] (map command_of l.commands);
  faults : l.resolver.forming.faults.items ++ faults (abbreviations_of l.resolver.abbreviations) (map command_of (drop l.i l.commands)) ≡ faults [] (map command_of l.commands);
  limit : first_too_large [] (map command_of l.commands) ≡ first_too_large (abbreviations_of l.resolver.abbreviations) (map command_of (drop l.i l.commands));
}
