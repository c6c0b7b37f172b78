use Rattle.std.proofs.Common.{sym, ap, ◌∙◌}
use Rattle.std.specs.Option.{option_map}
use Rattle.lam_scope.specs.TableViews.{place_number}
use Rattle.lam_scope.specs.Tables.{place_at, place_row_numbered}
use Rattle.lam_query.specs.inner.OnePiece.{by_no_term, by_no_type, by_type}
use Rattle.lam_query.proofs.HoverByPiece.{number_stands, found_there}
use Rattle.lam_query.proofs.hovers.shown_in.Goals as goal

pub returns-in_default : goal.returns-in_default
returns-in_default c =
    let of = rw c.from_ref.ensures.value at c.in_ok-scopes.ensures in
    by_no_term (ap (λ t. place_at t c.args.offset) (sym of.same_table) ∙ sym c.place_at.ensures ∙ ap (option_map place_number) c.in_default.is)

pub returns-in_default-types : goal.returns-in_default-types
returns-in_default-types c =
    let of = rw c.from_ref.ensures.value at c.in_ok-scopes.ensures in
    let at = ap (λ t. place_at t c.args.offset) (sym of.same_table) ∙ sym c.place_at.ensures ∙ ap (option_map place_number) c.in-Some.is in
    by_no_type at
    (found_there c.args.table.now c.args.types.now _ c.args.offset c.in-Some.place.0 _ _ c.requires.stand c.requires.inside at c.in_default-types.is)

pub text-requires : goal.text-requires
text-requires c =
    let of = rw c.from_ref.ensures.value at c.in_ok-scopes.ensures in
    let at = ap (λ t. place_at t c.args.offset) (sym of.same_table) ∙ sym c.place_at.ensures ∙ ap (option_map place_number) c.in-Some.is in
    number_stands c.args.table.now c.args.types.now _ c.args.offset c.in-Some.place.0 _ _ c.requires.stand c.requires.inside at c.in-Some-types.is

pub returns : goal.returns
returns c =
    let of = rw c.from_ref.ensures.value at c.in_ok-scopes.ensures in
    let at = ap (λ t. place_at t c.args.offset) (sym of.same_table) ∙ sym c.place_at.ensures ∙ ap (option_map place_number) c.in-Some.is in
    by_type at
    (found_there c.args.table.now c.args.types.now _ c.args.offset c.in-Some.place.0 _ _ c.requires.stand c.requires.inside at c.in-Some-types.is)
    c.in_ok-shown.ensures
    (c.span_of.ensures ∙ ap (λ t. (place_row_numbered t c.in-Some.place.0).span) of.same_table)
