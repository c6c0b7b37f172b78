use Rattle.std.proofs.Common.{map, drop}
use Rattle.lam_scope.specs.Views.{statement_of}
use Rattle.lam_typing.proofs.Statements.{GoesThrough}
use Rattle.lam_typing.proofs.walking.walk_statements.Given as goal

abbrev pub invariant-loop-i : goal.invariant-loop-i
invariant-loop-i l = GoesThrough l.initial.walk l.walk (map statement_of l.statements) (map statement_of (drop l.i l.statements))
