use Rattle.std.proofs.Common.{◌≡◌, sym, ap, ◌∙◌, position, rules}
use Rattle.lam_scope.specs.Tables.{is_over}
use Rattle.lam_scope.specs.TableViews.{text_places}
use Rattle.lam_scope.proofs.RowIntervals.{first_place}
use Rattle.lam_scope.proofs.scopes.Scopes.place_at.Goals as goal

pub returns-in-None : goal.returns-in-None
returns-in-None c =
    let rows = c.args.self.now.rows in
    let is : c.deref-2.result.now ≡ rows.places.items = search rules in
    sym c.in-None.is ∙ c.first_with.ensures ∙ first_place c.args.offset rows.terms.items c.deref-2.result.now ∙ ap (λ ps. position (is_over c.args.offset) (text_places rows.terms.items ps)) is

pub returns-in-Some : goal.returns-in-Some
returns-in-Some c =
    let rows = c.args.self.now.rows in
    let is : c.deref-2.result.now ≡ rows.places.items = search rules in
    sym c.in-Some.is ∙ c.first_with.ensures ∙ first_place c.args.offset rows.terms.items c.deref-2.result.now ∙ ap (λ ps. position (is_over c.args.offset) (text_places rows.terms.items ps)) is
