use Rattle.std.proofs.Common.{ap, map}
use Rattle.lam_scope.specs.TableViews.{text_use, text_places}
use Rattle.lam_scope.proofs.TableRows.{origin-set}
use Rattle.lam_scope.proofs.rows.Rows.set_origin.Goals as goal

pub returns-clause-table : goal.returns-clause-table
returns-clause-table c =
    ap (λ bs. record { binders = bs; uses = map text_use c.args.self.now.uses.items; places = text_places c.args.self.now.terms.items c.args.self.now.places.items })
    (origin-set c.args.self.now.binders.items c.args.binder.0 c.index_mut.result.now c.args.origin c.requires c.index_mut.ensures.value)
