use Rattle.std.proofs.Common.{map, arith}
use Rattle.lam_scope.specs.Views.{statement_of}
use Rattle.lam_typing.proofs.Statements.{goes_further, goes_to_end, stops_at}
use Rattle.lam_typing.proofs.walking.walk_statements.Goals as goal

pub returns-in_err-walk_owned_statement-clause-stopped : goal.returns-in_err-walk_owned_statement-clause-stopped
returns-in_err-walk_owned_statement-clause-stopped c =
    stops_at c.from_residual.result _ c.args.walk.now c.loop-i.walk c.walk_owned_statement.new.walk (map statement_of c.args.statements.now) c.args.statements.now c.loop-i.i c.index-statements-i.result
    c.loop-i-test.true c.index-statements-i.is c.loop-i.invariant c.from_residual.ensures.1 c.in_err-walk_owned_statement.ensures.stopped

pub loop-i-preserved : goal.loop-i-preserved
loop-i-preserved c =
    goes_further c.args.walk.now c.loop-i.walk c.walk_owned_statement.new.walk (map statement_of c.args.statements.now) c.args.statements.now c.loop-i.i c.index-statements-i.result
    c.loop-i-test.true c.index-statements-i.is c.loop-i.invariant c.in_ok-walk_owned_statement.ensures.grows c.in_ok-walk_owned_statement.ensures.goes_on

pub returns-clause-went : goal.returns-clause-went
returns-clause-went c =
    goes_to_end c.args.walk.now c.loop-i.walk (map statement_of c.args.statements.now) c.args.statements.now c.loop-i.i (omega (arith, c.loop-i-test.false)) c.loop-i.invariant
