-- The least entries of a scope are a context of it, and the scope of each place of a document has them.
use Rattle.std.proofs.Common.{ℕ, zero, suc, List, [], ◌∷◌, map, Option, subst, refl}
use Rattle.lam_rules.specs.Types.{Typ}
use Rattle.lam_rules.specs.Typing.{Context}
use Rattle.lam_rules.specs.declared.rules.Dialect.{Dialect}
use Rattle.lam_scope.specs.Trees.{CommandTree}
use Rattle.lam_scope.specs.Labels.{place_in}
use Rattle.lam_scope.specs.Nameless.{statements}
use Rattle.lam_scope.specs.PlacedTerms.{PlacedTree, term_of, tree_in, document_terms}
use Rattle.lam_scope.specs.Places.{written, of_term, Scope}
use Rattle.lam_scope.specs.WellFormed.{IsWellFormedScope}
use Rattle.lam_scope.proofs.PlacedPlaces.{same_places}
use Rattle.lam_scope.proofs.WellFormedForms.{document-wf}
use Rattle.lam_typing.specs.Contexts.{IsContext}
use Rattle.lam_typing.specs.LeastTypes.{IsLeastAt, AreLeastEntries}
use Rattle.lam_typing.proofs.Existing.{exists_at}
use Rattle.lam_typing.proofs.PlaceProofs.{entries_lowest}
use Rattle.lam_typing.proofs.WellFormedPlaces.{IsWellFormedPlace, AreWellFormedPlaces, places_of_wf}

pub least_are_context : (s : Scope) (g : Context) (d : Dialect) → IsWellFormedScope s → AreLeastEntries s g d → IsContext s g d
least_are_context s g d ws least = (entries_lowest s g d ws least).is_context

pub least_entries : (s : Scope) (d : Dialect) → IsWellFormedScope s → (g : Context) × AreLeastEntries s g d
least_entries [] d ws = ([], tt)
least_entries (written w ∷ outside) d ws = let g = least_entries outside d ws.1 in (w ∷ g.0, (refl, g.1))
least_entries (of_term e ∷ outside) d ws =
    let g = least_entries outside d ws.1 in
    let o = exists_at d outside e ws.1 ws.0 in
    (o.0 ∷ g.0, (o.1, g.1))

-- places of a document

numbered_wf : (ts : List PlacedTree) (n : ℕ) → AreWellFormedPlaces (map (λ t. (term_of t).place) ts) → IsWellFormedPlace (term_of (tree_in ts n)).place
numbered_wf [] n wf = (tt, tt)
numbered_wf (t ∷ ts) zero wf = wf.0
numbered_wf (t ∷ ts) (suc n) wf = numbered_wf ts n wf.1

pub place_wf : (cs : List CommandTree) (n : ℕ) → IsWellFormedPlace (place_in cs n)
place_wf cs n = numbered_wf (document_terms cs) n (subst AreWellFormedPlaces (same_places cs) (places_of_wf [] (statements [] [] cs) tt (document-wf cs)))

pub place_entries : (cs : List CommandTree) (n : ℕ) (d : Dialect) → (g : Context) × AreLeastEntries (place_in cs n).scope g d × IsContext (place_in cs n).scope g d
place_entries cs n d =
    let ws = (place_wf cs n).0 in
    let g = least_entries (place_in cs n).scope d ws in
    (g.0, g.1, least_are_context (place_in cs n).scope g.0 d ws g.1)

pub place_type : (cs : List CommandTree) (n : ℕ) (d : Dialect) → (o : Option Typ) × IsLeastAt (place_in cs n).scope (place_in cs n).here o d
place_type cs n d = let wf = place_wf cs n in exists_at d (place_in cs n).scope (place_in cs n).here wf.0 wf.1
