use Rattle.std.proofs.Common.{refl, subst}
use Rattle.lam_query.specs.inner.Bound.{AreFreeIn, IsBoundAfter}
use Rattle.lam_query.specs.inner.Kept.{command_row_of}
use Rattle.lam_syntax.specs.Views.{command_of}
use Rattle.lam_typing.specs.Checking.{types_in}
use Rattle.lam_query.proofs.Analysts.{command_kept, command_sound}
use Rattle.lam_query.proofs.analyses.Analyst.keep_command.Goals as goal

pub found_of-requires-clause-seen : goal.found_of-requires-clause-seen
found_of-requires-clause-seen c =
    let free : AreFreeIn (command_of c.args.command.now) c.in_ok-free.free = record { names = c.in_ok-free.ensures.names; type_names = c.in_ok-free.ensures.type_names } in
    (c.args.self.now.bound, c.in_ok-free_numbers.ensures.seen (types_in c.args.self.now.types) (command_of c.args.command.now) free c.requires.stand)

pub returns-clause-kept : goal.returns-clause-kept
returns-clause-kept c =
    let free : AreFreeIn (command_of c.args.command.now) c.in_ok-free.free = record { names = c.in_ok-free.ensures.names; type_names = c.in_ok-free.ensures.type_names } in
    let seen = c.in_ok-free_numbers.ensures.seen (types_in c.args.self.now.types) (command_of c.args.command.now) free c.requires.stand in
    command_kept (command_of c.args.command.now) _ c.args.self.now _ c.around.new.self c.requires c.found_of.ensures.sound
    (c.in_ok-free_numbers.ensures.asked (command_of c.args.command.now) free) c.in_ok-free_numbers.ensures.same c.in_ok-free_numbers.ensures.keeps
    (λ names others. c.in_ok-found.ensures.found c.args.self.now.bound names others seen) c.found_of.ensures.keeps c.found_of.ensures.dialect c.in_ok-binds.ensures.binding
    (subst (λ n. IsBoundAfter (command_of c.args.command.now) n c.around.new.self c.bind.new.self) c.bound.ensures c.in_ok-binds.ensures.bound)
    c.in_ok-binds.ensures.keeps c.in_ok-binds.ensures.numbers refl refl refl refl

pub returns-clause-sound : goal.returns-clause-sound
returns-clause-sound c =
    let free : AreFreeIn (command_of c.args.command.now) c.in_ok-free.free = record { names = c.in_ok-free.ensures.names; type_names = c.in_ok-free.ensures.type_names } in
    let seen = c.in_ok-free_numbers.ensures.seen (types_in c.args.self.now.types) (command_of c.args.command.now) free c.requires.stand in
    command_sound (command_of c.args.command.now)
    (command_row_of (record { free_numbers = c.in_ok-free_numbers.free_numbers; binds = c.in_ok-binds.binds; found = c.in_ok-found.found })) c.args.self.now _ c.around.new.self
    c.requires c.found_of.ensures.sound
    (c.in_ok-free_numbers.ensures.asked (command_of c.args.command.now) free) c.in_ok-free_numbers.ensures.same c.in_ok-free_numbers.ensures.keeps
    (λ names others. c.in_ok-found.ensures.found c.args.self.now.bound names others seen) c.found_of.ensures.keeps c.found_of.ensures.dialect c.in_ok-binds.ensures.binding
    (subst (λ n. IsBoundAfter (command_of c.args.command.now) n c.around.new.self c.bind.new.self) c.bound.ensures c.in_ok-binds.ensures.bound)
    c.in_ok-binds.ensures.keeps c.in_ok-binds.ensures.numbers
