use Rattle.lam_syntax.specs.Views.{command_of}
use Rattle.lam_typing.specs.Checking.{types_in}
use Rattle.lam_query.specs.inner.Bound.{AreFreeIn}
use Rattle.lam_query.specs.inner.Checked.{abbreviations_behind}
use Rattle.lam_query.specs.inner.Kept.{found_types_of}
use Rattle.lam_query.specs.inner.Rows.{entries_of, types_of}
use Rattle.lam_query.proofs.BoundNames.{stand_kept, same_stand, same_after, stand_after}
use Rattle.lam_query.proofs.ShownTypes.{next_shown, next_known, found_stand, untyped_large}
use Rattle.lam_query.proofs.types_of_commands.show_command.Goals as goal

pub found_of-requires-clause-seen : goal.found_of-requires-clause-seen
found_of-requires-clause-seen c =
    let free : AreFreeIn (command_of c.args.command.now) c.in_ok-free.free = record { names = c.in_ok-free.ensures.names; type_names = c.in_ok-free.ensures.type_names } in
    let seen = c.in_ok-around.ensures.seen (types_in c.args.types.now) (command_of c.args.command.now) free c.requires.stand in
    (c.args.bound.now, seen)

pub returns-in_default : goal.returns-in_default
returns-in_default c =
    let free : AreFreeIn (command_of c.args.command.now) c.in_ok-free.free = record { names = c.in_ok-free.ensures.names; type_names = c.in_ok-free.ensures.type_names } in
    let seen = c.in_ok-around.ensures.seen (types_in c.args.types.now) (command_of c.args.command.now) free c.requires.stand in
    record {
      sound = c.found_of.ensures.sound;
      dialect = c.found_of.ensures.dialect;
      stand =
          same_stand (types_in c.found_of.new.types) c.args.bound.now c.around.new.self c.in_ok-around.ensures.same
          (stand_kept (types_in c.args.types.now) (types_in c.found_of.new.types) c.args.bound.now c.found_of.ensures.keeps c.requires.stand);
      numbers = c.in_ok-around.ensures.numbers;
      next = λ done known rest.
          let is = c.in_ok-found.ensures.found c.args.bound.now (entries_of done known.context) (types_of (abbreviations_behind done)) seen known.bound in
          rw c.found_of.ensures.dialect
          (untyped_large done (command_of c.args.command.now) c.args.types.now c.found_of.new.types c.args.bound.now known c.in_ok-found.field-0 c.in_default.not-Types is rest);
    }

pub returns-clause-stand : goal.returns-clause-stand
returns-clause-stand c =
    let free : AreFreeIn (command_of c.args.command.now) c.in_ok-free.free = record { names = c.in_ok-free.ensures.names; type_names = c.in_ok-free.ensures.type_names } in
    let seen = c.in_ok-around.ensures.seen (types_in c.args.types.now) (command_of c.args.command.now) free c.requires.stand in
    let ts = types_in c.found_of.new.types in
    let stand = found_stand (command_of c.args.command.now) (types_in c.args.types.now) ts c.args.bound.now _ c.in-Types.found _ c.in-Types.is
    (λ names others. c.in_ok-found.ensures.found c.args.bound.now names others seen) in
    let grown = stand_kept (types_in c.args.types.now) ts c.args.bound.now c.found_of.ensures.keeps c.requires.stand in
    stand_after (command_of c.args.command.now) ts c.in-Types.found.bound c.args.bound.now c.bind.new.self grown
    (same_after (command_of c.args.command.now) c.in-Types.found.bound c.args.bound.now c.around.new.self c.bind.new.self c.in_ok-around.ensures.same c.in_ok-bind.ensures.bound)
    stand.1

pub returns-clause-next : goal.returns-clause-next
returns-clause-next c done known =
    let free : AreFreeIn (command_of c.args.command.now) c.in_ok-free.free = record { names = c.in_ok-free.ensures.names; type_names = c.in_ok-free.ensures.type_names } in
    let seen = c.in_ok-around.ensures.seen (types_in c.args.types.now) (command_of c.args.command.now) free c.requires.stand in
    let command = command_of c.args.command.now in
    let types = c.found_of.new.types in
    let is = rw c.in-Types.is at (c.in_ok-found.ensures.found c.args.bound.now (entries_of done known.context) (types_of (abbreviations_behind done)) seen known.bound) in
    let told = rw c.table.ensures at c.in_ok-shown_of.ensures in (
      next_known done command c.args.types.now types c.args.bound.now known (found_types_of c.in-Types.found) is c.bind.new.self c.found_of.ensures.keeps
          c.found_of.ensures.dialect c.requires.stand
          (same_after command c.in-Types.found.bound c.args.bound.now c.around.new.self c.bind.new.self c.in_ok-around.ensures.same c.in_ok-bind.ensures.bound),
      rw (c.found_of.ensures.dialect, told) (next_shown done command c.args.types.now types c.args.bound.now known (found_types_of c.in-Types.found) is),
    )

pub shown_of-requires-clause-types : goal.shown_of-requires-clause-types
shown_of-requires-clause-types c =
    let free : AreFreeIn (command_of c.args.command.now) c.in_ok-free.free = record { names = c.in_ok-free.ensures.names; type_names = c.in_ok-free.ensures.type_names } in
    let seen = c.in_ok-around.ensures.seen (types_in c.args.types.now) (command_of c.args.command.now) free c.requires.stand in
    rw c.table.ensures
    (found_stand (command_of c.args.command.now) (types_in c.args.types.now) (types_in c.found_of.new.types) c.args.bound.now _ c.in-Types.found _ c.in-Types.is
    (λ names others. c.in_ok-found.ensures.found c.args.bound.now names others seen)).0

pub shown_of-requires-clause-bound : goal.shown_of-requires-clause-bound
shown_of-requires-clause-bound c =
    let free : AreFreeIn (command_of c.args.command.now) c.in_ok-free.free = record { names = c.in_ok-free.ensures.names; type_names = c.in_ok-free.ensures.type_names } in
    let seen = c.in_ok-around.ensures.seen (types_in c.args.types.now) (command_of c.args.command.now) free c.requires.stand in
    rw c.table.ensures
    (found_stand (command_of c.args.command.now) (types_in c.args.types.now) (types_in c.found_of.new.types) c.args.bound.now _ c.in-Types.found _ c.in-Types.is
    (λ names others. c.in_ok-found.ensures.found c.args.bound.now names others seen)).1
