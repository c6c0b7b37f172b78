use Rattle.std.proofs.Common.{map, ap, sym, ◌∙◌, subst}
use Rattle.std.specs.Option.{option_map}
use Rattle.lam_scope.specs.PlacedTerms.{projection_at}
use Rattle.lam_scope.specs.TableViews.{place_number}
use Rattle.lam_syntax.specs.Views.{command_of}
use Rattle.lam_query.specs.inner.Listed.{AreListed}
use Rattle.lam_query.specs.Views.{item_of}
use Rattle.lam_query.proofs.AskedTerms.{projection_told}
use Rattle.lam_query.proofs.LabelsAlone.{projection_alone, some_large, large_behind, small_behind}
use Rattle.lam_query.proofs.analyses.Analysis.labels_in.Goals as goal
use Rattle.lam_query.proofs.NoneLarge.{none_from}

pub alone-requires-clause-of : goal.alone-requires-clause-of
alone-requires-clause-of c = let there = c.requires.there in (there.0, there.1)

pub returns-in_default-clause-none : goal.returns-in_default-clause-none
returns-in_default-clause-none c =
    let here = c.requires.there.3 in
    let alone = c.in_ok-alone.ensures here.pieces here.sight here.before in
    let nowhere = rw c.deref-2.ensures.value at (sym c.projection_at.ensures ∙ ap (option_map place_number) c.in_default.is) in
    sym (projection_alone c.args.dot here.sight (command_of c.args.command)) ∙ ap (projection_at c.args.dot) (sym alone.commands) ∙ nowhere

pub returns-then-is_some-clause-some : goal.returns-then-is_some-clause-some
returns-then-is_some-clause-some c text offset h of =
    let alone = c.in_ok-alone.ensures h.pieces h.sight h.before in
    let there = rw c.deref-2.ensures.value at (sym c.projection_at.ensures ∙ ap (option_map place_number) c.in-Some.is) in
    let large = some_large c.args.self.now.row_faults.large (sym c.is_some.ensures ∙ c.if-is_some.true) in
    rw c.new.ensures.items
    (large_behind text offset c.args.self.now c.args.piece of h (command_of c.args.command) c.args.dot c.in-Some.place.0 large.0 large.1
    (ap (projection_at c.args.dot) (sym alone.commands) ∙ there))

pub fields_of-requires-clause-projection : goal.fields_of-requires-clause-projection
fields_of-requires-clause-projection c =
    let there = rw c.deref-2.ensures.value at (sym c.projection_at.ensures ∙ ap (option_map place_number) c.in-Some.is) in
    rw c.deref-3.ensures.value (projection_told (map command_of c.in_ok-alone.alone.commands.items) c.args.dot c.in-Some.place.0 there)

pub returns-clause-some : goal.returns-clause-some
returns-clause-some c text offset h of =
    let alone = c.in_ok-alone.ensures h.pieces h.sight h.before in
    let items = map item_of c.in_ok-items.items.items in
    let there = rw c.deref-2.ensures.value at (sym c.projection_at.ensures ∙ ap (option_map place_number) c.in-Some.is) in
    let listed = rw c.deref-3.ensures.value at c.in_ok-items.ensures in
    small_behind text offset c.args.self.now c.args.piece of h (command_of c.args.command) (none_from c.args.self.now.row_faults.large (sym c.is_some.ensures ∙ c.if-is_some.false))
    c.args.dot c.in-Some.place.0 items
    (ap (projection_at c.args.dot) (sym alone.commands) ∙ there) (subst (λ cs. AreListed cs c.in-Some.place.0 items c.args.self.now.dialect) alone.commands listed)
