use Rattle.std.proofs.Common.{subst}
use Rattle.lam_scope.specs.Views.{statement_of}
use Rattle.lam_typing.specs.Walk.{GoesOn, HasStoppedAt}
use Rattle.lam_typing.proofs.Glue.{grows_same, retabled_grows}
use Rattle.lam_typing.proofs.Statements.{err_stopped_at, goes_on_numbered, numbered_stopped}
use Rattle.lam_typing.proofs.walking.walk_owned_statement.Goals as goal

pub returns-in_err-numbered-clause-grows : goal.returns-in_err-numbered-clause-grows
returns-in_err-numbered-clause-grows c = retabled_grows (grows_same c.requires.sound) c.intern_statement.ensures.keeps

pub walk_statement-requires-clause-sound : goal.walk_statement-requires-clause-sound
walk_statement-requires-clause-sound c = (retabled_grows (grows_same c.requires.sound) c.intern_statement.ensures.keeps).sound

pub returns-in_err-walk_statement-clause-stopped : goal.returns-in_err-walk_statement-clause-stopped
returns-in_err-walk_statement-clause-stopped c =
    let w0 = c.args.walk.now in
    let ts = c.intern_statement.new.table in
    let statement = statement_of c.args.statement.now in
    err_stopped_at c.from_residual-in_err-walk_statement.result _ w0 c.walk_statement.new.walk statement c.from_residual-in_err-walk_statement.ensures.1
    (numbered_stopped _ w0 ts c.walk_statement.new.walk statement c.requires.sound c.intern_statement.ensures.keeps
    (subst (λ s. HasStoppedAt c.in_err-walk_statement.field-0.0 (record w0 { table = ts }) c.walk_statement.new.walk s) c.in_ok-numbered.ensures.form.same c.in_err-walk_statement.ensures.stopped))

pub returns-clause-goes_on : goal.returns-clause-goes_on
returns-clause-goes_on c =
    let w0 = c.args.walk.now in
    let ts = c.intern_statement.new.table in
    goes_on_numbered w0 ts c.walk_statement.new.walk (statement_of c.args.statement.now) c.requires.sound c.intern_statement.ensures.keeps
    (subst (λ s. GoesOn (record w0 { table = ts }) c.walk_statement.new.walk s) c.in_ok-numbered.ensures.form.same c.in_ok-walk_statement.ensures.goes_on)
