use Rattle.std.proofs.Common.{Err, ap, refl, subst, ◌∙◌}
use Rattle.std.proofs.lemmas.Result.{err_from_is_err_and}
use Rattle.lam_rules.specs.Numbers.{Keeps}
use Rattle.lam_syntax.specs.Views.{command_of}
use Rattle.lam_typing.specs.Checking.{types_in}
use Rattle.lam_query.proofs.Surroundings.{seen_names_stand, seen_limit, seen_limit_err, is_stated}
use Rattle.lam_query.proofs.typed_commands.state_command.Goals as goal

pub intern_command-requires : goal.intern_command-requires
intern_command-requires c =
    seen_names_stand (types_in c.args.types.now) c.table_mut.result.now c.table_mut.ensures.table c.requires.seen.0 (command_of c.args.command.now)
    c.args.around c.requires.seen.1

pub returns-in_err-statement-clause-sound : goal.returns-in_err-statement-clause-sound
returns-in_err-statement-clause-sound c =
    c.table_mut.ensures.sound c.intern_command.new.table c.requires.sound
    (subst (λ old. Keeps old c.intern_command.new.table) c.table_mut.ensures.table c.in_err-statement.ensures.keeps)

pub returns-in_err-statement-clause-limit : goal.returns-in_err-statement-clause-limit
returns-in_err-statement-clause-limit c b seen =
    let p = err_from_is_err_and c.from_residual.result c.from_residual.ensures.1 in
    let same = p.1 ∙ ap (λ y. Err y) p.2 in
    seen_limit_err (types_in c.args.types.now) c.table_mut.result.now c.table_mut.ensures.table b (command_of c.args.command.now)
    c.args.around seen
    c.in_err-statement.field-0.0 c.from_residual.result same c.in_err-statement.ensures.limit

pub returns-clause-sound : goal.returns-clause-sound
returns-clause-sound c =
    c.table_mut.ensures.sound c.intern_command.new.table c.requires.sound
    (subst (λ old. Keeps old c.intern_command.new.table) c.table_mut.ensures.table c.in_ok-statement.ensures.keeps)

pub returns-clause-limit : goal.returns-clause-limit
returns-clause-limit c b seen =
    seen_limit (types_in c.args.types.now) c.table_mut.result.now c.table_mut.ensures.table b (command_of c.args.command.now)
    c.args.around seen
    ∙ c.in_ok-statement.ensures.limit

pub returns-clause-stated : goal.returns-clause-stated
returns-clause-stated c b seen =
    is_stated (types_in c.args.types.now) c.table_mut.result.now c.table_mut.ensures.table b (command_of c.args.command.now)
    c.args.around seen
    c.intern_command.new.table _ c.in_ok-statement.ensures.keeps refl
    c.in_ok-statement.ensures.statement c.in_ok-statement.ensures.stand c.in_ok-statement.ensures.faults
