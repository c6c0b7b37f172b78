-- When a row of the table of subterms describes a term.
use Rattle.std.specs.Prelude.{◌≡◌, List, map, not, length}
use Rattle.lam_scope.specs.Tables.{TextPlace, Table, binder_in, seen_in}
use Rattle.lam_scope.specs.PlacedTerms.{PlacedTree, term_of, parts_of, trees_in}

-- A row of this table describes this one of the terms: its span, whether it is derived, the names of the binders in scope, and its parts.
pub record IsRowOf (t : Table) (terms : List PlacedTree) (row : TextPlace) (own : PlacedTree) : Type 0 where
  pub span : row.span ≡ (term_of own).span
  pub derived : row.derived ≡ not (term_of own).is_written
  pub names : map (λ b. (binder_in t.binders b).name) (seen_in t.binders (length t.binders) row.inner) ≡ (term_of own).names
  pub parts : trees_in terms row.terms ≡ parts_of own
