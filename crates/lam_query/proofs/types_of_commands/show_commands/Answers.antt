use Rattle.std.proofs.Common.{◌+◌, [], ◌∷◌, ◌++◌, map, drop, append_assoc, refl, sym, subst, ◌∙◌}
use Rattle.std.proofs.lemmas.List.{map-append}
use Rattle.lam_syntax.specs.Views.{command_of}
use Rattle.lam_typing.specs.Checking.{types_in, dialect_in}
use Rattle.lam_query.specs.CommandTypes.{small, too_large}
use Rattle.lam_query.specs.Sizes.{IsSizeFault}
use Rattle.lam_query.specs.Views.{command_type_of}
use Rattle.lam_query.proofs.BoundNames.{unbound_as}
use Rattle.lam_query.proofs.Checked.{none_checked, checked_small}
use Rattle.lam_query.proofs.ShownTypes.{command_comes, none_comes, shown_push}
use Rattle.lam_query.proofs.types_of_commands.show_commands.Goals as goal

pub loop-i-init : goal.loop-i-init
loop-i-init c = record {
  sound = c.in_ok-types.ensures.sound;
  dialect = c.in_ok-types.ensures.dialect;
  stand = c.new-bound.ensures.stand (types_in c.in_ok-types.types);
  numbers = c.new-bound.ensures.numbers;
  done = [];
  all = refl;
  known = record {
    context = [];
    found = [];
    blames = [];
    checked = none_checked (dialect_in c.in_ok-types.types);
    bound = unbound_as (types_in c.in_ok-types.types) c.new-bound.result c.new-bound.ensures.bound;
  };
  shown = rw c.in_ok-all.ensures.items tt;
}

pub returns-in_default : goal.returns-in_default
returns-in_default c =
    let before = c.loop-i.invariant in
    let commands = c.args.commands.now in
    let next = rw c.in_default.is at (c.in_ok-shown.ensures.next before.done before.known) in
    let rest = map command_of (drop (c.loop-i.i + 1) commands) in
    let large = next rest in
    let fault = subst (IsSizeFault (before.done ++ command_of c.index-commands-i.result ∷ rest) large.0) (c.show_command.ensures.dialect ∙ before.dialect) large.1 in
    rw (command_comes before.done commands c.loop-i.i c.index-commands-i.result _ c.loop-i-test.true c.index-commands-i.is before.all) (too_large large.0 fault)

pub loop-i-preserved : goal.loop-i-preserved
loop-i-preserved c =
    let before = c.loop-i.invariant in
    let commands = c.args.commands.now in
    let command = command_of c.index-commands-i.result in
    let next = rw c.in-Some.is at (c.in_ok-shown.ensures.next before.done before.known) in
    let dialect = c.show_command.ensures.dialect ∙ before.dialect in
    record {
      sound = c.show_command.ensures.sound;
      dialect = dialect;
      stand = c.in_ok-shown.ensures.stand;
      numbers = c.in_ok-shown.ensures.numbers;
      done = before.done ++ command ∷ [];
      all =
          command_comes before.done commands c.loop-i.i c.index-commands-i.result _ c.loop-i-test.true c.index-commands-i.is before.all
          ∙ sym (append_assoc before.done (command ∷ []) (map command_of (drop (c.loop-i.i + 1) commands)));
      known = next.0;
      shown =
          rw (c.in_ok-push.ensures.items, map-append command_type_of c.loop-i.all.items (c.in-Some.shown ∷ []))
          (shown_push [] [] [] before.done command (map command_type_of c.loop-i.all.items) (command_type_of c.in-Some.shown) c.args.dialect before.shown (rw dialect at next.1));
    }

pub returns : goal.returns
returns c =
    let before = c.loop-i.invariant in
    let known = before.known in
    let is_small = checked_small before.done known.context known.found known.blames _ known.checked in
    rw (none_comes before.done c.args.commands.now c.loop-i.i _ c.loop-i-test.false before.all) (small (rw before.dialect at is_small) before.shown)
