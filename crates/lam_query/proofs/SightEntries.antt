-- The entries of the binders that a place sees are the least ones.
use Rattle.std.proofs.Common.{◌≡◌, ◌⊎◌, ℕ, ◌<◌, ◌≤◌, List, [], ◌∷◌, map, length, reverse, get_or, Option, None, refl, sym, ap, subst, ◌∙◌, inl, inr, arith}
use Rattle.std.proofs.lemmas.Bool.{cases_lt}
use Rattle.std.proofs.lemmas.List.{reverse-reverse}
use Rattle.std.proofs.Math.ListN.{get_or-eq_default}
use Rattle.lam_rules.specs.Types.{Typ}
use Rattle.lam_rules.specs.Terms.{unit_term}
use Rattle.lam_rules.specs.declared.rules.Dialect.{Dialect}
use Rattle.lam_syntax.specs.Trees.{CommandTree}
use Rattle.lam_scope.specs.declared.resolved.Resolved.{Resolved}
use Rattle.lam_scope.specs.Labels.{place_in}
use Rattle.lam_scope.specs.Places.{Scope, Place, places_of, place_numbered}
use Rattle.lam_scope.specs.Sights.{Sight, sight_numbered}
use Rattle.lam_scope.specs.Tables.{table, place_row_numbered, seen_in}
use Rattle.lam_scope.proofs.PlacedPlaces.{same_places}
use Rattle.lam_scope.proofs.Reading.{map-reverse}
use Rattle.lam_scope.proofs.WellFormedForms.{document-wf}
use Rattle.lam_typing.specs.declared.typing.Typing.{Typing}
use Rattle.lam_typing.specs.Analysis.{AreLeast}
use Rattle.lam_typing.specs.Entries.{entry_from}
use Rattle.lam_typing.specs.inner.Notes.{notes_of}
use Rattle.lam_typing.specs.Typings.{found_of, entries_in, context_at, dialect_of, IsTypingOf}
use Rattle.lam_typing.proofs.Completing.{least_among}
use Rattle.lam_typing.proofs.Sighted.{place_seen}
use Rattle.lam_typing.proofs.Together.{least_length}
use Rattle.lam_query.specs.inner.Typings.{AreFoundOf}
use Rattle.lam_query.specs.WellTypedDocuments.{statements_in}
use Rattle.lam_query.proofs.Deriving.{entries_told}
use Rattle.lam_query.proofs.RowsAndTerms.{number_told}
use Rattle.lam_query.proofs.SightLengths.{sight_length}
use Rattle.lam_typing.specs.LeastTypes.{AreLeastEntries}

-- the binders that a place sees, the innermost first
abbrev pub binders_seen : List CommandTree → ℕ → List ℕ
binders_seen cs n = seen_in (table cs).binders (length (table cs).binders) (place_row_numbered (table cs) n).inner

-- in their order, their entries are those of the context
pub same_entries : (cs : List CommandTree) (resolved : Resolved) (typing : Typing) (d : Dialect) (n : ℕ) → AreFoundOf cs resolved typing d
    → map (λ b. get_or (entries_in typing) b None) (binders_seen cs n) ≡ context_at (statements_in cs) typing n
same_entries cs resolved typing d n h =
    let entry : ℕ → Option Typ = λ b. get_or (entries_in typing) b None in
    let turned : reverse (map entry (binders_seen cs n)) ≡ reverse (context_at (statements_in cs) typing n) =
    sym (map-reverse entry (binders_seen cs n)) ∙ entries_told cs resolved typing d n h in
    sym (reverse-reverse (map entry (binders_seen cs n))) ∙ ap reverse turned ∙ reverse-reverse (context_at (statements_in cs) typing n)

-- a context of least entries, of any place

none_seen : (s : Scope) (t : Sight) (entry : _ → Option Typ) (d : Dialect) → s ≡ [] → length t ≡ length s → AreLeastEntries s (map entry t) d
none_seen [] [] entry d none same = tt
none_seen [] (o ∷ t) entry d none same = let no_way : ⊥ = omega arith in absurd no_way
none_seen (b ∷ s) t entry d none same = absurd cc

least_at_place : (cs : List CommandTree) (typing : Typing) (d : Dialect) (n : ℕ) → AreLeast (places_of [] (statements_in cs)) (found_of typing) d
    → IsTypingOf (statements_in cs) typing → dialect_of typing ≡ d → AreLeastEntries (place_numbered (statements_in cs) n).scope (context_at (statements_in cs) typing n) d
least_at_place cs typing d n least of is = by (cases_lt n (length (places_of [] (statements_in cs))))
  where
    by : (n < length (places_of [] (statements_in cs))) ⊎ (length (places_of [] (statements_in cs)) ≤ n)
        → AreLeastEntries (place_numbered (statements_in cs) n).scope (context_at (statements_in cs) typing n) d
    by (inl lt) =
        let many = least_length (places_of [] (statements_in cs)) (found_of typing) d least in
        let among = least_among (places_of [] (statements_in cs)) (found_of typing) (dialect_of typing) of.least in
        let seen = place_seen (statements_in cs) (found_of typing) (notes_of 0 (found_of typing) [] (statements_in cs)) (dialect_of typing) n among (document-wf cs) refl lt in
        subst (λ e. AreLeastEntries (place_numbered (statements_in cs) n).scope (context_at (statements_in cs) typing n) e) is (seen.entries (omega arith))
    by (inr le) =
        let past = get_or-eq_default (places_of [] (statements_in cs)) (record { scope = []; here = unit_term }) le in
        none_seen (place_numbered (statements_in cs) n).scope (sight_numbered (statements_in cs) n) (entry_from (statements_in cs) (found_of typing)) d
        (ap (λ p. p.scope) past) (sight_length (statements_in cs) n)

-- so they are the least entries of what the place sees
pub least_seen : (cs : List CommandTree) (resolved : Resolved) (typing : Typing) (d : Dialect) (n : ℕ) → AreFoundOf cs resolved typing d
    → AreLeastEntries (place_in cs n).scope (map (λ b. get_or (entries_in typing) b None) (binders_seen cs n)) d
least_seen cs resolved typing d n h =
    let least = subst (λ ps. AreLeast ps (found_of typing) d) (sym (same_places cs)) h.typed.least in
    let of = subst (λ ss. IsTypingOf ss typing) h.statements h.types_of_it in
    subst (λ g. AreLeastEntries (place_in cs n).scope g d) (sym (same_entries cs resolved typing d n h))
    (subst (λ (p : Place). AreLeastEntries p.scope (context_at (statements_in cs) typing n) d) (number_told cs n) (least_at_place cs typing d n least of h.dialect))
