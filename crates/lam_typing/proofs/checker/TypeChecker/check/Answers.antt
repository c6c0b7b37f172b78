use Rattle.lam_typing.proofs.Checking.{checked_as}
use Rattle.lam_typing.proofs.checker.TypeChecker.check.Goals as goal

pub returns-clause-checked : goal.returns-clause-checked
returns-clause-checked c =
    let walked = c.walk_statement-outcome in
    checked_as c.end.result walked.result c.args.self.now c.begin.new.self walked.new.walk c.args.entries.now c.args.statement.now
    c.begin.ensures.holds c.in_ok-begin.ensures.ready c.requires.sound.last
    walked.ensures.grows walked.ensures.stands walked.ensures.bound walked.ensures.goes_on walked.ensures.stopped c.end.ensures
