use Rattle.std.proofs.Common.{sym, ◌∙◌, ap, map, length, reverse}
use Rattle.std.proofs.lemmas.List.{length-map}
use Rattle.lam_scope.specs.Tables.{seen_in, place_row_numbered}
use Rattle.lam_scope.specs.TableViews.{binder_number, text_binder, rows_of}
use Rattle.lam_scope.proofs.Reading.{map-reverse}
use Rattle.lam_scope.proofs.scopes.Scopes.visible_at.Goals as goal

pub returns : goal.returns
returns c =
    let rows = c.args.self.now.rows in
    let is = c.as_slice-binders.ensures.value in
    ap (map binder_number) c.reverse.ensures.items
    ∙ map-reverse binder_number c.in_ok-found.found.items
    ∙ ap reverse
    (c.in_ok-found.ensures
    ∙ (λ i. seen_in (map text_binder (is i)) (length (is i)) (c.innermost_at-inner.ensures i))
    ∙ (λ i. seen_in (map text_binder rows.binders.items) (sym (length-map rows.binders.items text_binder) i) (place_row_numbered (rows_of rows) c.args.place.0).inner))
