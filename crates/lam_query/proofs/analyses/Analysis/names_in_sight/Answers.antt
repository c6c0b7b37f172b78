use Rattle.std.proofs.Common.{map, sym, ◌∙◌}
use Rattle.lam_query.specs.Views.{item_of}
use Rattle.lam_query.proofs.PutInSight.{nothing_put}
use Rattle.lam_query.proofs.SightNames.{both_ok}
use Rattle.lam_query.proofs.SightAlone.{number_inside, rows_ahead, large_listed, small_listed, none_too_large}
use Rattle.lam_query.proofs.analyses.Analysis.names_in_sight.Goals as goal
use Rattle.lam_query.proofs.NoneLarge.{none_from}

pub returns-then-is_some : goal.returns-then-is_some
returns-then-is_some c =
    let text = c.args.text.now in
    let a = c.args.self.now in
    let p = c.args.piece in
    let alone = c.args.alone.now in
    let scopes = c.args.scopes.now in
    let n = c.args.place.0 in
    let outer = c.in_ok-outer.outer.items in
    let inner = c.in_ok-inner.inner.items in
    let first = rw c.deref.ensures.value at c.in_ok-put_in_sight.ensures in
    let then = rw c.deref-then-is_some.ensures.value at c.in_ok-put_in_sight-2.ensures in
    let known = c.requires.alone in
    both_ok c.items_of.result _ _ _
    (λ made told ordered offset own h commands are.
    large_listed text offset a p own alone h c.requires.of commands are scopes c.requires.scopes n
    (number_inside text offset a p own alone h known.0 known.1 known.2 n known.3) outer inner
    (c.in_ok-outer.ensures.names h.there.here.around.front (rows_ahead text offset a p own alone h)) c.in_ok-inner.ensures.names
    c.new-details.result c.put_in_sight.new.details c.put_in_sight-then-is_some.new.details (map item_of made.items)
    (nothing_put c.new-details.result c.new-details.ensures.empty) told ordered
    (sym c.is_some.ensures ∙ c.if-is_some.true) first then)
    c.items_of.ensures.items c.items_of.ensures.ordered

pub returns-in_default : goal.returns-in_default
returns-in_default c offset own h commands are =
    let text = c.args.text.now in
    let a = c.args.self.now in
    let p = c.args.piece in
    let alone = c.args.alone.now in
    let none = none_from a.row_faults.large (sym c.is_some.ensures ∙ c.if-is_some.false) in
    let fault = rw (c.in_default.is, c.deref-2.ensures.value) at c.in_ok-types.ensures.none in
    absurd
    (none_too_large text offset a p own alone h c.requires.of commands are c.in_ok-outer.outer.items
    (c.in_ok-outer.ensures.entries h.there.here.around.front (rows_ahead text offset a p own alone h) none) none fault.0 fault.1)

pub returns : goal.returns
returns c =
    let text = c.args.text.now in
    let a = c.args.self.now in
    let p = c.args.piece in
    let alone = c.args.alone.now in
    let scopes = c.args.scopes.now in
    let n = c.args.place.0 in
    let types = c.in-Some.types in
    let outer = c.in_ok-outer.outer.items in
    let inner = c.in_ok-inner-2.inner.items in
    let small = sym c.is_some.ensures ∙ c.if-is_some.false in
    let none = none_from a.row_faults.large small in
    let found = rw (c.in-Some.is, c.deref-2.ensures.value) at c.in_ok-types.ensures.some in
    let first = rw (c.deref-3.ensures.value, c.table.ensures) at c.in_ok-put_in_sight-3.ensures in
    let then = rw (c.deref-4.ensures.value, c.table-2.ensures) at c.in_ok-put_in_sight-4.ensures in
    let known = c.requires.alone in
    both_ok c.items_of-2.result _ _ _
    (λ made told ordered offset own h commands are.
    small_listed text offset a p own alone h c.requires.of commands are scopes c.requires.scopes n
    (number_inside text offset a p own alone h known.0 known.1 known.2 n known.3) outer inner
    (c.in_ok-outer.ensures.names h.there.here.around.front (rows_ahead text offset a p own alone h)) c.in_ok-inner-2.ensures.names
    c.new-details.result c.put_in_sight-2.new.details c.put_in_sight-3.new.details (map item_of made.items)
    (nothing_put c.new-details.result c.new-details.ensures.empty) told ordered
    types small found (c.in_ok-outer.ensures.entries h.there.here.around.front (rows_ahead text offset a p own alone h) none) c.in_ok-inner-2.ensures.entries first then)
    c.items_of-2.ensures.items c.items_of-2.ensures.ordered
