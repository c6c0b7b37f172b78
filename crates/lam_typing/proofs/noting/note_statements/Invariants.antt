use Rattle.std.proofs.Common.{map, drop}
use Rattle.lam_scope.specs.Views.{statement_of}
use Rattle.lam_typing.proofs.NotedParts.{NotesThrough}
use Rattle.lam_typing.proofs.noting.note_statements.Given as goal

abbrev pub invariant-loop-i : goal.invariant-loop-i
invariant-loop-i l = NotesThrough l.notes (map statement_of l.statements) (map statement_of (drop l.i l.statements))
