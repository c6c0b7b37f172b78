use Rattle.std.proofs.Common.{map, subst, sym, ap, ◌∙◌, arith}
use Rattle.std.specs.Option.{option_map}
use Rattle.std.proofs.lemmas.Result.{IfOk-weaker}
use Rattle.lam_syntax.specs.Views.{command_of}
use Rattle.lam_scope.specs.TableViews.{place_number}
use Rattle.lam_query.specs.Views.{item_of}
use Rattle.lam_query.specs.inner.OnePiece.{IsOwnOf}
use Rattle.lam_query.specs.inner.Reading.{own_of}
use Rattle.lam_query.proofs.WordAlone.{piece_ends, own_read, alone_around, no_word, no_command_there, no_variable_there, names_there, variable_inside}
use Rattle.lam_query.proofs.analyses.Analysis.names.Goals as goal

pub touched_word-requires : goal.touched_word-requires
touched_word-requires c = omega (arith, piece_ends c.args.text.now c.args.offset c.args.self.now c.args.piece c.requires.there)

pub returns-in_default : goal.returns-in_default
returns-in_default c tokens commands are are_commands none =
    rw c.new.ensures.items
    (no_word c.args.text.now c.args.offset c.args.self.now c.args.piece c.requires.there c.requires.of tokens commands are are_commands none _ c.touched_word.ensures c.in_default.is)

pub returns-in_default-2 : goal.returns-in_default-2
returns-in_default-2 c tokens commands are are_commands none =
    let own = own_read c.args.text.now c.args.offset c.args.self.now c.args.piece c.requires.there _
    (λ rest ts there one. subst (λ command. IsOwnOf ts (own_of command)) c.in_default-2.is (c.in_ok-command.ensures rest ts there one)) in
    rw c.new-in_default-2.ensures.items
    (no_command_there c.args.text.now c.args.offset c.args.self.now c.args.piece c.requires.there c.requires.of tokens commands are are_commands none c.in-Some.start
    (λ ts among. sym c.in-Some.is ∙ c.touched_word.ensures ts among) own)

pub names_in_sight-requires-clause-alone : goal.names_in_sight-requires-clause-alone
names_in_sight-requires-clause-alone c =
    let here = c.requires.there in
    let command = command_of c.in-Some-2.command in
    let own = own_read c.args.text.now c.args.offset c.args.self.now c.args.piece here _
    (λ rest ts there one. subst (λ command. IsOwnOf ts (own_of command)) c.in-Some-2.is (c.in_ok-command.ensures rest ts there one)) in
    let alone = c.in_ok-alone.alone in
    let is_alone = c.in_ok-alone.ensures here.pieces here.sight here.before in
    let at = rw c.deref-2.ensures.value at (sym c.variable_at.ensures ∙ ap (option_map place_number) c.in-Some-variable_at.is) in (
      c.args.offset,
      command,
      alone_around c.args.text.now c.args.offset c.args.self.now c.args.piece here command alone own is_alone,
      variable_inside here.sight command (map command_of alone.commands.items) c.in-Some.start c.in-Some-variable_at.place.0 is_alone.commands at,
    )

pub returns-in-Some-variable_at : goal.returns-in-Some-variable_at
returns-in-Some-variable_at c =
    let here = c.requires.there in
    let command = command_of c.in-Some-2.command in
    let own = own_read c.args.text.now c.args.offset c.args.self.now c.args.piece here _
    (λ rest ts there one. subst (λ command. IsOwnOf ts (own_of command)) c.in-Some-2.is (c.in_ok-command.ensures rest ts there one)) in
    let alone = c.in_ok-alone.alone in
    let is_alone = c.in_ok-alone.ensures here.pieces here.sight here.before in
    let at = rw c.deref-2.ensures.value at (sym c.variable_at.ensures ∙ ap (option_map place_number) c.in-Some-variable_at.is) in
    IfOk-weaker c.names_in_sight.result _ _
    (λ items listed tokens commands are are_commands none.
    names_there c.args.text.now c.args.offset c.args.self.now c.args.piece here c.requires.of tokens commands are are_commands none c.in-Some.start
    (λ ts among. sym c.in-Some.is ∙ c.touched_word.ensures ts among) command own alone is_alone (map command_of alone.commands.items) c.in-Some-variable_at.place.0 (map item_of items.items)
    is_alone.commands at
    (listed c.args.offset command (alone_around c.args.text.now c.args.offset c.args.self.now c.args.piece here command alone own is_alone) commands
    (record { tokens = tokens; are_tokens = are; are_commands = are_commands })))
    c.names_in_sight.ensures

pub returns : goal.returns
returns c tokens commands are are_commands none =
    let here = c.requires.there in
    let command = command_of c.in-Some-2.command in
    let own = own_read c.args.text.now c.args.offset c.args.self.now c.args.piece here _
    (λ rest ts there one. subst (λ command. IsOwnOf ts (own_of command)) c.in-Some-2.is (c.in_ok-command.ensures rest ts there one)) in
    let alone = c.in_ok-alone.alone in
    let is_alone = c.in_ok-alone.ensures here.pieces here.sight here.before in
    let nowhere = rw c.deref-2.ensures.value at (sym c.variable_at.ensures ∙ ap (option_map place_number) c.in-None.is) in
    rw c.new-in-None.ensures.items
    (no_variable_there c.args.text.now c.args.offset c.args.self.now c.args.piece here c.requires.of tokens commands are are_commands none c.in-Some.start
    (λ ts among. sym c.in-Some.is ∙ c.touched_word.ensures ts among) command own alone is_alone (map command_of alone.commands.items) is_alone.commands nowhere)
