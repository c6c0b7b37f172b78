use Rattle.std.proofs.Common.{ap, sym, ◌∙◌}
use Rattle.std.proofs.lemmas.Option.{IfSome_then}
use Rattle.std.proofs.lemmas.Result.{IfOk-weaker}
use Rattle.lam_syntax.specs.Views.{command_of}
use Rattle.lam_query.specs.inner.Reading.{own_of}
use Rattle.lam_query.proofs.LabelsByPiece.{none_then, no_dot_there, items_there, no_command_there, no_projection_there}
use Rattle.lam_query.proofs.analyses.Analysis.labels.Goals as goal

pub returns-in_default-clause-none : goal.returns-in_default-clause-none
returns-in_default-clause-none c text tokens l of here are =
    no_dot_there text c.args.offset c.args.self.now c.args.piece of here (λ ts cut. sym c.in_default.is ∙ c.dot_before.ensures.dot ts cut) tokens l are

pub returns-in-Some-2-clause-some : goal.returns-in-Some-2-clause-some
returns-in-Some-2-clause-some c =
    IfOk-weaker c.labels_in.result _ _
    (λ found some.
    IfSome_then found some
    (λ items listed text tokens commands of here are are_commands.
    items_there text c.args.offset c.args.self.now c.args.piece of here c.in-Some.dot (λ ts cut. sym c.in-Some.is ∙ c.dot_before.ensures.dot ts cut)
    (own_of c.in_ok-command.field-0) c.in_ok-command.ensures tokens commands are are_commands (command_of c.in-Some-2.command) (ap own_of c.in-Some-2.is) _
    (listed text c.args.offset here of)))
    c.labels_in.ensures.some

pub returns-in-Some-2-clause-none : goal.returns-in-Some-2-clause-none
returns-in-Some-2-clause-none c =
    IfOk-weaker c.labels_in.result _ _
    (λ found none.
    none_then found none
    (λ nowhere text tokens l of here are.
    no_projection_there text c.args.offset c.args.self.now c.args.piece of here c.in-Some.dot (λ ts cut. sym c.in-Some.is ∙ c.dot_before.ensures.dot ts cut)
    (own_of c.in_ok-command.field-0) c.in_ok-command.ensures (command_of c.in-Some-2.command) (ap own_of c.in-Some-2.is) nowhere tokens l are))
    c.labels_in.ensures.none

pub returns-in-None-clause-none : goal.returns-in-None-clause-none
returns-in-None-clause-none c text tokens l of here are =
    no_command_there text c.args.offset c.args.self.now c.args.piece of here c.in-Some.dot (λ ts cut. sym c.in-Some.is ∙ c.dot_before.ensures.dot ts cut)
    (own_of c.in_ok-command.field-0) c.in_ok-command.ensures (ap own_of c.in-None.is) tokens l are
