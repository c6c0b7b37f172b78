use Rattle.std.proofs.Common.{drop, map}
use Rattle.lam_rules.specs.TypingViews.{typings_of}
use Rattle.lam_scope.specs.TableViews.{place_number}
use Rattle.lam_scope.specs.Views.{table_of}
use Rattle.lam_query.specs.inner.RowSteps.{row_proofs}
use Rattle.lam_query.proofs.Flat.{IsLeft}
use Rattle.lam_query.proofs.steps.+list_typing.Given as goal

abbrev pub invariant-list_typings-loop-i : goal.invariant-list_typings-loop-i
invariant-list_typings-loop-i l =
    IsLeft l.fn.steps.items (row_proofs (table_of l.scopes) l.place.0 (map place_number l.terms) (typings_of l.proofs))
    l.steps.items l.numbers.items (row_proofs (table_of l.scopes) l.place.0 (map place_number (drop l.i l.terms)) (typings_of (drop l.i l.proofs)))
