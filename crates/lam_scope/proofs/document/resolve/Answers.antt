use Rattle.std.proofs.Common.{sym, subst, ◌∙◌, ap, map, length, []}
use Rattle.lam_syntax.specs.Views.{command_of}
use Rattle.lam_scope.specs.Places.{places_of}
use Rattle.lam_scope.specs.WellFormed.{AreWellFormedStatements}
use Rattle.lam_scope.proofs.PlaceCounts.{as_many_places, rows_counted}
use Rattle.lam_scope.proofs.Resolving.{origins-rows}
use Rattle.lam_scope.proofs.WellFormedForms.{document-wf}
use Rattle.lam_scope.proofs.document.resolve.Goals as goal
use Rattle.lam_scope.specs.TableViews.{origin_of}

pub returns-clause-origins : goal.returns-clause-origins
returns-clause-origins c =
    c.in_ok-origins.ensures
    ∙ ap (map (λ r. origin_of r.origin)) c.deref-2.ensures.value
    ∙ sym (origins-rows c.args.scopes.now.rows.binders.items)
    ∙ ap (λ t. map (λ b. b.origin) t.binders) c.requires.same_table

pub returns-clause-places : goal.returns-clause-places
returns-clause-places c =
    (ap (λ ss. length (places_of [] ss)) c.in_ok-abbreviations.ensures.statements ∙ as_many_places (map command_of c.args.commands.now))

pub invariant_of-result : goal.invariant_of-result
invariant_of-result c = record {
  places_counted =
      c.place_count.ensures
      ∙ rows_counted c.args.scopes.now.rows (map command_of c.args.commands.now) c.requires.same_table
      ∙ ap (λ ss. length (places_of [] ss)) (sym c.in_ok-abbreviations.ensures.statements);
  well_formed =
      subst AreWellFormedStatements (sym c.in_ok-abbreviations.ensures.statements) (document-wf (map command_of c.args.commands.now));
}
