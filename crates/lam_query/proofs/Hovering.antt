-- What is shown of an offset, from what was found of places.
use Rattle.std.proofs.Common.{◌≡◌, ℕ, ◌<◌, List, [], length, get_or, Option, Some, None, sym, subst, ◌∙◌, arith}
use Rattle.std.proofs.lemmas.List.{length-map}
use Rattle.std.proofs.lemmas.List.Quantifiers.{position-Some}
use Rattle.lam_rules.specs.Types.{Typ}
use Rattle.lam_rules.specs.declared.rules.Dialect.{Dialect}
use Rattle.lam_token.specs.declared.span.Span.{Span}
use Rattle.lam_syntax.specs.Trees.{CommandTree}
use Rattle.lam_scope.specs.declared.resolved.Resolved.{Resolved}
use Rattle.lam_scope.specs.Tables.{table, place_at, is_over, place_row_numbered}
use Rattle.lam_typing.specs.Analysis.{AreLeast}
use Rattle.lam_typing.specs.LeastTypes.{IsLeastAt}
use Rattle.lam_typing.specs.declared.typing.Typing.{Typing}
use Rattle.lam_typing.specs.Typings.{found_of}
use Rattle.lam_query.specs.Sizes.{IsSizeFault, IsSmall, places_in}
use Rattle.lam_scope.specs.PlacedTerms.{document_terms, term_of, tree_in}
use Rattle.lam_query.specs.Hovers.{IsTypedAround, IsHover}
use Rattle.lam_query.specs.inner.Typings.{AreFoundOf}
use Rattle.lam_scope.specs.Places.{Place}
use Rattle.lam_scope.proofs.PlacedRows.{as_many_rows}
use Rattle.lam_query.proofs.Small.{least_at}
use Rattle.lam_query.proofs.RowsAndTerms.{place_told, innermost_row, innermost_nowhere}

pub place_inside : (cs : List CommandTree) (o n : ℕ) → place_at (table cs) o ≡ Some n → n < length (places_in cs)
place_inside cs o n at =
    let within = (position-Some (is_over o) (table cs).places n (place_row_numbered (table cs) n) at).0 in
    let size = length-map (document_terms cs) (λ t. (term_of t).place) in
    let rows = as_many_rows cs in
    omega arith

-- from the least types of all places

least_of : (cs : List CommandTree) (found : List (Option Typ)) (o n : ℕ) (d : Dialect)
    → AreLeast (places_in cs) found d → place_at (table cs) o ≡ Some n
    → (let p = (term_of (tree_in (document_terms cs) n)).place in IsLeastAt p.scope p.here (get_or found n None) d)
least_of cs found o n d least at =
    subst (λ (p : Place). IsLeastAt p.scope p.here (get_or found n None) d) (place_told cs n)
    (least_at (places_in cs) found n (term_of (tree_in [] 0)).place d (place_inside cs o n at) least)

pub typed_there : (cs : List CommandTree) (found : List (Option Typ)) (o n : ℕ) (t : Typ) (d : Dialect)
    → IsSmall cs d → AreLeast (places_in cs) found d → place_at (table cs) o ≡ Some n → get_or found n None ≡ Some t
    → IsTypedAround cs o (tree_in (document_terms cs) n) t d
typed_there cs found o n t d small least at is = record {
  small = small;
  innermost = innermost_row cs o n at;
  least = rw is at (least_of cs found o n d least at);
}

pub untyped_there : (cs : List CommandTree) (found : List (Option Typ)) (o n : ℕ) (d : Dialect) → AreLeast (places_in cs) found d
    → place_at (table cs) o ≡ Some n → get_or found n None ≡ None → IsHover cs o None d
untyped_there cs found o n d all_least at is = λ term type typed.
    let both : Some term ≡ Some (tree_in (document_terms cs) n) = sym typed.innermost ∙ innermost_row cs o n at in
    let same : term ≡ tree_in (document_terms cs) n = cc in
    let least = subst (λ t. IsLeastAt (term_of t).place.scope (term_of t).place.here (Some type) d) same typed.least in
    let none = rw is at (least_of cs found o n d all_least at) in
    none type least.0

-- from an analysis

pub least_found : (cs : List CommandTree) (resolved : Resolved) (typing : Typing) (d : Dialect) (o n : ℕ)
    → AreFoundOf cs resolved typing d → place_at (table cs) o ≡ Some n
    → (let p = (term_of (tree_in (document_terms cs) n)).place in IsLeastAt p.scope p.here (get_or (found_of typing) n None) d)
least_found cs resolved typing d o n h at = least_of cs (found_of typing) o n d h.typed.least at

-- where nothing is shown

pub nothing_around : (cs : List CommandTree) (o : ℕ) (d : Dialect) → place_at (table cs) o ≡ None → IsHover cs o None d
nothing_around cs o d at = λ term type typed. let no_way : None ≡ Some term = sym (innermost_nowhere cs o at) ∙ typed.innermost in cc

pub too_large_around : (cs : List CommandTree) (s : Span) (o : ℕ) (d : Dialect) → IsSizeFault cs s d → IsHover cs o None d
too_large_around cs s o d fault = λ term type typed. typed.small s fault
