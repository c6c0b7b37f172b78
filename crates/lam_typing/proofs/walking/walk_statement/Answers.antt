use Rattle.std.proofs.Common.{ap, inl, refl}
use Rattle.lam_rules.proofs.Tables.{keeps_same}
use Rattle.lam_scope.specs.Places.{defines, states}
use Rattle.lam_scope.specs.InternedViews.{interned_term, interned_statement}
use Rattle.lam_typing.specs.Answers.{answer}
use Rattle.lam_typing.proofs.Glue.{grows_trans, pushed_grows}
use Rattle.lam_typing.proofs.KeptForms.{written_differs}
use Rattle.lam_typing.proofs.Statements.{err_stopped_at, goes_on_defined, goes_on_declared, goes_on_stated, defined_stopped, stated_stopped}
use Rattle.lam_typing.proofs.walking.walk_statement.Goals as goal

pub returns-in_err-found-in-Definition-clause-stopped : goal.returns-in_err-found-in-Definition-clause-stopped
returns-in_err-found-in-Definition-clause-stopped c =
    let w0 = c.args.walk.now in
    let e = interned_term w0.table c.in-Definition.term in
    rw (ap (interned_statement w0.table) c.in-Definition.is)
    (err_stopped_at c.from_residual.result _ w0 c.walk_term.new.walk (defines e) c.from_residual.ensures.1
    (λ rest. defined_stopped w0 c.walk_term.new.walk e rest _ c.in_err-found-in-Definition.ensures.walked))

pub returns-in_ok-push-in-Definition-clause-grows : goal.returns-in_ok-push-in-Definition-clause-grows
returns-in_ok-push-in-Definition-clause-grows c =
    let found = c.in_ok-found-in-Definition in
    grows_trans found.ensures.grows
    (pushed_grows c.push.new.self found.found found.ensures.grows.sound (keeps_same c.walk_term.new.walk.table) (inl c.in_ok-push-in-Definition.ensures.items) found.ensures.walked.stands)

pub returns-in_ok-push-in-Definition-clause-goes_on : goal.returns-in_ok-push-in-Definition-clause-goes_on
returns-in_ok-push-in-Definition-clause-goes_on c =
    let w0 = c.args.walk.now in
    let found = c.in_ok-found-in-Definition in
    rw (ap (interned_statement w0.table) c.in-Definition.is)
    (goes_on_defined w0 c.walk_term.new.walk c.push.new.self (interned_term w0.table c.in-Definition.term) found.found c.requires.sound found.ensures.grows found.ensures.walked c.in_ok-push-in-Definition.ensures.items)

pub returns-in_ok-push-in-Declaration-clause-grows : goal.returns-in_ok-push-in-Declaration-clause-grows
returns-in_ok-push-in-Declaration-clause-grows c =
    let ts = c.args.walk.now.table in
    let stands = rw c.in-Declaration.is at c.requires.stand in
    pushed_grows c.push-in-Declaration.new.self c.in-Declaration.written c.requires.sound (keeps_same ts) (inl c.in_ok-push-in-Declaration.ensures.items) stands

pub returns-in_ok-push-in-Declaration-clause-goes_on : goal.returns-in_ok-push-in-Declaration-clause-goes_on
returns-in_ok-push-in-Declaration-clause-goes_on c =
    let w0 = c.args.walk.now in
    let number = c.in-Declaration.written in
    let stands = rw c.in-Declaration.is at c.requires.stand in
    rw (ap (interned_statement w0.table) c.in-Declaration.is)
    (goes_on_declared w0 w0.table c.push-in-Declaration.new.self (answer w0.table number) number c.requires.sound
    (written_differs w0.table number c.types_differ.ensures.wf stands) (keeps_same w0.table) c.in_ok-push-in-Declaration.ensures.items refl)

pub returns-in_err-walk_term-in-Evaluation-clause-stopped : goal.returns-in_err-walk_term-in-Evaluation-clause-stopped
returns-in_err-walk_term-in-Evaluation-clause-stopped c =
    let w0 = c.args.walk.now in
    let e = interned_term w0.table c.in-Evaluation.term in
    rw (ap (interned_statement w0.table) c.in-Evaluation.is)
    (err_stopped_at c.from_residual-in_err-walk_term-in-Evaluation.result _ w0 c.walk_term-in-Evaluation.new.walk (states e) c.from_residual-in_err-walk_term-in-Evaluation.ensures.1
    (λ rest. stated_stopped w0 c.walk_term-in-Evaluation.new.walk e rest _ c.in_err-walk_term-in-Evaluation.ensures.walked))

pub returns-in_ok-walk_term-in-Evaluation-clause-goes_on : goal.returns-in_ok-walk_term-in-Evaluation-clause-goes_on
returns-in_ok-walk_term-in-Evaluation-clause-goes_on c =
    let w0 = c.args.walk.now in
    let found = c.in_ok-walk_term-in-Evaluation in
    rw (ap (interned_statement w0.table) c.in-Evaluation.is)
    (goes_on_stated w0 c.walk_term-in-Evaluation.new.walk (interned_term w0.table c.in-Evaluation.term) found.field-0 c.requires.sound found.ensures.grows found.ensures.walked)
