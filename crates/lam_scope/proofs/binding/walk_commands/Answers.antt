use Rattle.lam_scope.specs.TableViews.{rows_of, text_binder, text_place, terms_start}
use Rattle.lam_scope.proofs.Slices.{sliced-length}
use Rattle.lam_scope.proofs.TableRows.{commands_more, commands_walked, empty_plus}
use Rattle.std.proofs.Common.{◌≡◌, ap, sym, ◌∙◌, map, length}
use Rattle.std.proofs.lemmas.List.{length-map}
use Rattle.lam_syntax.specs.Views.{command_of}
use Rattle.lam_scope.specs.Tables.{◌⊕◌, commands_table, table}
use Rattle.lam_scope.proofs.binding.walk_commands.Goals as goal

pub loop-i-init : goal.loop-i-init
loop-i-init c =
    let r = c.in_ok-rows.rows in
    let binders : length r.binders.items ≡ 0 = sym (length-map r.binders.items text_binder) ∙ ap (λ t. length t.binders) c.in_ok-rows.ensures in
    let places : length r.places.items ≡ 0 = sym (sliced-length terms_start text_place r.terms.items r.places.items) ∙ ap (λ t. length t.places) c.in_ok-rows.ensures in
    (λ i. c.in_ok-rows.ensures i ⊕ commands_table (c.new-types.ensures i) (c.in_ok-names.ensures i) (binders i) (places i) 0 (map command_of c.args.commands.now))
    ∙ empty_plus (table (map command_of c.args.commands.now))

pub loop-i-preserved : goal.loop-i-preserved
loop-i-preserved c =
    commands_more (rows_of c.loop-i.rows) _ _ _ _ _ _ _ _ _ _ c.args.commands.now c.loop-i.i c.index-commands-i.result c.loop-i-test.true c.index-commands-i.is
    c.in_ok-walk_command.ensures.table c.in_ok-walk_command.ensures.types c.in_ok-walk_command.ensures.names c.in_ok-walk_command.ensures.binders c.in_ok-walk_command.ensures.places
    c.loop-i.invariant

pub returns : goal.returns
returns c = commands_walked (rows_of c.loop-i.rows) _ _ _ _ _ _ c.args.commands.now c.loop-i.i c.loop-i-test.false c.loop-i.invariant
