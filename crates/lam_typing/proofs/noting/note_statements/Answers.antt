use Rattle.std.proofs.Common.{map}
use Rattle.lam_scope.specs.Views.{statement_of}
use Rattle.lam_typing.proofs.NotedParts.{statement_noted}
use Rattle.lam_typing.proofs.noting.note_statements.Goals as goal

pub loop-i-preserved : goal.loop-i-preserved
loop-i-preserved c =
    statement_noted c.loop-i.notes c.note_statement.new.notes (map statement_of c.args.statements.now) c.args.statements.now c.loop-i.i c.index-statements-i.result
    c.loop-i-test.true c.index-statements-i.is c.loop-i.invariant c.in_ok-note_statement.ensures
