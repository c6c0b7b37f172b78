-- What is told of a term that is to blame, from the types that were found of its parts.
use Rattle.std.proofs.Common.{◌≡◌, ℕ, ◌<◌, ◌≤◌, drop, List, [], ◌∷◌, length, get_or, map, Option, Some, None, Contains, refl, ap, sym, subst, ◌∙◌}
use Rattle.std.specs.List.{AllByRecursion}
use Rattle.std.proofs.lemmas.List.{length-map}
use Rattle.std.proofs.lemmas.List.Elements.{All-from_recursion, All-contains}
use Rattle.std.proofs.lemmas.Simd.{map-map}
use Rattle.lam_rules.specs.Types.{Typ}
use Rattle.lam_rules.specs.Terms.{Term, true_term, false_term, if_then_else, numeral, succ, pred, is_zero, variable, free, lambda, apply, unit_term, ascribe, let_in, record_term, project, fix, TermFields, no_terms, term_field}
use Rattle.lam_rules.specs.Numbers.{type_of}
use Rattle.lam_rules.specs.declared.numbers.TyNo.{TyNo}
use Rattle.lam_rules.specs.declared.rules.Dialect.{Dialect}
use Rattle.lam_syntax.specs.Trees.{CommandTree}
use Rattle.lam_scope.specs.Labels.{place_in}
use Rattle.lam_scope.specs.Places.{Scope, Place, places_of, place_numbered}
use Rattle.lam_scope.specs.PlacedTerms.{document_terms, tree_in, term_of}
use Rattle.lam_scope.specs.TableViews.{place_number}
use Rattle.lam_scope.specs.Tables.{table, place_row_numbered}
use Rattle.lam_scope.specs.Views.{AreScopesOf, table_of, statements_of}
use Rattle.lam_scope.specs.declared.numbers.Place.{Place as PlaceNumber}
use Rattle.lam_scope.specs.declared.resolved.Resolved.{Resolved}
use Rattle.lam_scope.specs.declared.scopes.Scopes.{Scopes}
use Rattle.lam_scope.proofs.PlacedPlaces.{same_places}
use Rattle.lam_typing.specs.Analysis.{AreLeast}
use Rattle.lam_typing.specs.Blaming.{ArePartsTyped, AreFieldsTyped}
use Rattle.lam_typing.specs.LeastTypes.{IsTyped, IsLeastAt}
use Rattle.lam_typing.specs.Typings.{types_of, found_of}
use Rattle.lam_query.specs.declared.typings.Types.{Types}
use Rattle.lam_query.specs.Mismatches.{Mismatch, IsMismatch}
use Rattle.lam_query.specs.Sizes.{places_in}
use Rattle.lam_query.specs.WellTypedDocuments.{statements_in}
use Rattle.lam_query.specs.inner.Explained.{mismatch_in, HasParts, IsBlamedAt}
use Rattle.lam_query.specs.inner.Typings.{AreTypesOf}
use Rattle.lam_query.proofs.Collected.{IsCollected, all_collected}
use Rattle.lam_query.proofs.RowsAndTerms.{place_told, number_told}
use Rattle.lam_query.proofs.Small.{least_at}
use Rattle.lam_query.proofs.TreeParts.{field_parts, part_places, parts_in_row, inside_row}

-- ---- parts with types

fields_typed : (s : Scope) (es : TermFields) (d : Dialect) → AreFieldsTyped s es d → AllByRecursion (λ p. IsTyped p.scope p.here d) (field_parts s es)
fields_typed s no_terms d typed = tt
fields_typed s (term_field l e es) d typed = (typed.0, fields_typed s es d typed.1)

all_typed : (s : Scope) (e : Term) (d : Dialect) → ArePartsTyped s e d → AllByRecursion (λ p. IsTyped p.scope p.here d) (part_places s e)
all_typed s (if_then_else c a b) d typed = (typed.0, (typed.1, (typed.2, tt)))
all_typed s (succ e) d typed = (typed, tt)
all_typed s (pred e) d typed = (typed, tt)
all_typed s (is_zero e) d typed = (typed, tt)
all_typed s (lambda w e) d typed = (typed, tt)
all_typed s (apply f a) d typed = (typed.0, (typed.1, tt))
all_typed s (ascribe e w) d typed = (typed, tt)
all_typed s (let_in a b) d typed = (typed.0, (typed.1, tt))
all_typed s (record_term es) d typed = fields_typed s es d typed
all_typed s (project e l) d typed = (typed, tt)
all_typed s (fix e) d typed = (typed, tt)
all_typed s true_term d typed = tt
all_typed s false_term d typed = tt
all_typed s unit_term d typed = tt
all_typed s (numeral x) d typed = tt
all_typed s (variable n) d typed = tt
all_typed s (free x) d typed = tt

-- a term has as many parts as its form says
as_many : (s : Scope) (e : Term) → HasParts e (length (part_places s e))
as_many s (if_then_else c a b) = refl
as_many s (succ e) = refl
as_many s (pred e) = refl
as_many s (is_zero e) = refl
as_many s (lambda w e) = tt
as_many s (apply f a) = refl
as_many s (ascribe e w) = refl
as_many s (let_in a b) = tt
as_many s (record_term es) = tt
as_many s (project e l) = refl
as_many s (fix e) = refl
as_many s true_term = tt
as_many s false_term = tt
as_many s unit_term = tt
as_many s (numeral x) = tt
as_many s (variable n) = tt
as_many s (free x) = tt

-- what is told of them is told of the term
told_of : (s : Scope) (e : Term) (us : List Typ) (d : Dialect) → AreLeast (part_places s e) (map Some us) d → IsMismatch s e (mismatch_in e us) d
told_of s (if_then_else c a b) (t ∷ u ∷ v ∷ []) d least = (t, least.0, refl)
told_of s (if_then_else c a b) [] d least = absurd least
told_of s (if_then_else c a b) (t ∷ []) d least = absurd least.1
told_of s (if_then_else c a b) (t ∷ u ∷ []) d least = absurd least.1.1
told_of s (if_then_else c a b) (t ∷ u ∷ v ∷ w ∷ us) d least = absurd least.1.1.1
told_of s (succ e) (t ∷ []) d least = (t, least.0, refl)
told_of s (succ e) [] d least = absurd least
told_of s (succ e) (t ∷ u ∷ us) d least = absurd least.1
told_of s (pred e) (t ∷ []) d least = (t, least.0, refl)
told_of s (pred e) [] d least = absurd least
told_of s (pred e) (t ∷ u ∷ us) d least = absurd least.1
told_of s (is_zero e) (t ∷ []) d least = (t, least.0, refl)
told_of s (is_zero e) [] d least = absurd least
told_of s (is_zero e) (t ∷ u ∷ us) d least = absurd least.1
told_of s (apply f a) (t ∷ u ∷ []) d least = (t, u, least.0, least.1.0, refl)
told_of s (apply f a) [] d least = absurd least
told_of s (apply f a) (t ∷ []) d least = absurd least.1
told_of s (apply f a) (t ∷ u ∷ v ∷ us) d least = absurd least.1.1
told_of s (ascribe e (Some w)) (t ∷ []) d least = (t, least.0, refl)
told_of s (ascribe e (Some w)) [] d least = absurd least
told_of s (ascribe e (Some w)) (t ∷ u ∷ us) d least = absurd least.1
told_of s (ascribe e None) us d least = refl
told_of s (project e l) (t ∷ []) d least = (t, least.0, refl)
told_of s (project e l) [] d least = absurd least
told_of s (project e l) (t ∷ u ∷ us) d least = absurd least.1
told_of s (fix e) (t ∷ []) d least = (t, least.0, refl)
told_of s (fix e) [] d least = absurd least
told_of s (fix e) (t ∷ u ∷ us) d least = absurd least.1
told_of s (lambda w e) us d least = refl
told_of s (let_in a b) us d least = refl
told_of s (record_term es) us d least = refl
told_of s true_term us d least = refl
told_of s false_term us d least = refl
told_of s unit_term us d least = refl
told_of s (numeral x) us d least = refl
told_of s (variable n) us d least = refl
told_of s (free x) us d least = refl

-- ---- what was found of them

module _ (cs : List CommandTree) (found : List (Option Typ)) (d : Dialect) (least : AreLeast (places_in cs) found d) where
  -- the least type of the term of a number
  pub least_numbered : (m : ℕ) → m < length (document_terms cs) → IsLeastAt (place_in cs m).scope (place_in cs m).here (get_or found m None) d
  least_numbered m lt =
      subst (λ (p : Place). IsLeastAt p.scope p.here (get_or found m None) d) (place_told cs m)
      (least_at (places_in cs) found m (term_of (tree_in [] 0)).place d (subst (λ k. m < k) (sym (length-map (document_terms cs) (λ t. (term_of t).place))) lt) least)

  least_each : (ns : List ℕ) → AllByRecursion (λ m. m < length (document_terms cs)) ns → AreLeast (map (place_in cs) ns) (map (λ m. get_or found m None) ns) d
  least_each [] inside = tt
  least_each (n ∷ ns) inside = (least_numbered n inside.0, least_each ns inside.1)

  each_found : (ns : List ℕ) → AllByRecursion (λ m. m < length (document_terms cs)) ns → AllByRecursion (λ p. IsTyped p.scope p.here d) (map (place_in cs) ns)
      → AllByRecursion (λ m. get_or found m None ≡ None → ⊥) ns
  each_found [] inside typed = tt
  each_found (n ∷ ns) inside typed =
      ((λ none. untyped none (least_numbered n inside.0)), each_found ns inside.1 typed.1)
    where
      untyped : get_or found n None ≡ None → IsLeastAt (place_in cs n).scope (place_in cs n).here (get_or found n None) d → ⊥
      untyped none is = (subst (λ o. IsLeastAt (place_in cs n).scope (place_in cs n).here o d) none is) typed.0.0 typed.0.1

  module _ (n : ℕ) where
    abbrev Numbers : List ℕ
    Numbers = (place_row_numbered (table cs) n).terms

    abbrev Here : Place
    Here = place_in cs n

    -- if the parts of a term have types, one was found of each
    pub parts_found : ArePartsTyped Here.scope Here.here d → AllByRecursion (λ m. get_or found m None ≡ None → ⊥) Numbers
    parts_found typed =
        each_found Numbers (inside_row cs n)
        (subst (AllByRecursion (λ (p : Place). IsTyped p.scope p.here d)) (sym (parts_in_row cs n)) (all_typed Here.scope Here.here d typed))

    pub parts_least : AreLeast (part_places Here.scope Here.here) (map (λ m. get_or found m None) Numbers) d
    parts_least =
        subst (λ ps. AreLeast ps (map (λ m. get_or found m None) Numbers) d) (parts_in_row cs n) (least_each Numbers (inside_row cs n))

    pub parts_counted : (us : List Typ) → map Some us ≡ map (λ m. get_or found m None) Numbers → HasParts Here.here (length us)
    parts_counted us same =
        subst (HasParts Here.here)
        (sym (ap length (parts_in_row cs n)) ∙ length-map Numbers (place_in cs) ∙ sym (length-map Numbers (λ m. get_or found m None)) ∙ ap length (sym same) ∙ length-map us Some)
        (as_many Here.scope Here.here)

    pub mismatch_told : (us : List Typ) → map Some us ≡ map (λ m. get_or found m None) Numbers → IsMismatch Here.scope Here.here (mismatch_in Here.here us) d
    mismatch_told us same =
        told_of Here.scope Here.here us d (subst (λ os. AreLeast (part_places Here.scope Here.here) os d) (sym same) parts_least)

-- ---- what the code has of a place that is to blame

-- the numbers of the types of parts
pub parts_collected : (ts : List Typ) (found : List (Option Typ)) (places : List PlaceNumber) (numbers : List ℕ) (i : ℕ) (parts : List TyNo) → length places ≤ i
    → IsCollected (λ number. Some (type_of ts number)) (λ (p : PlaceNumber). get_or found p.0 None) parts (drop i places) places
    → map place_number places ≡ numbers → map Some (map (type_of ts) parts) ≡ map (λ n. get_or found n None) numbers
parts_collected ts found places numbers i parts le so_far are =
    map-map Some (type_of ts) parts
    ∙ all_collected (λ number. Some (type_of ts number)) (λ (p : PlaceNumber). get_or found p.0 None) places i parts le so_far
    ∙ sym (map-map (λ n. get_or found n None) place_number places)
    ∙ ap (map (λ n. get_or found n None)) are

same_place : (commands : List CommandTree) (resolved : Resolved) (n : ℕ) → statements_of resolved ≡ statements_in commands
    → place_numbered (statements_of resolved) n ≡ place_in commands n
same_place commands resolved n same = ap (λ ss. place_numbered ss n) same ∙ number_told commands n

module _ (scopes : Scopes) (types : Types) (place : PlaceNumber) where
  -- the types of its parts
  abbrev Found : List (Option Typ)
  Found = map (λ n. get_or (found_of types.typing) n None) (place_row_numbered (table_of scopes) place.0).terms

  -- its term
  abbrev Term_there : Term
  Term_there = (place_numbered (statements_of types.resolved) place.0).here

  numbers_same : (commands : List CommandTree) → AreScopesOf scopes commands
      → Found ≡ map (λ n. get_or (found_of types.typing) n None) (place_row_numbered (table commands) place.0).terms
  numbers_same commands of = ap (λ t. map (λ n. get_or (found_of types.typing) n None) (place_row_numbered t place.0).terms) of.same_table

  pub is_told : (us : List Typ) (e : Term) (m : Option Mismatch) → map Some us ≡ Found → e ≡ Term_there → m ≡ mismatch_in e us
      → (commands : List CommandTree) (d : Dialect) → AreScopesOf scopes commands → AreTypesOf commands types d
      → IsMismatch (place_in commands place.0).scope (place_in commands place.0).here m d
  is_told us e m same is made commands d of are =
      let there : Place = place_in commands place.0 in
      let term : e ≡ there.here = is ∙ ap (λ (p : Place). p.here) (same_place commands types.resolved place.0 are.statements) in
      subst (λ x. IsMismatch there.scope there.here x d) (ap (λ t. mismatch_in t us) (sym term) ∙ sym made)
      (mismatch_told commands (found_of types.typing) d are.typed.least place.0 us (same ∙ numbers_same commands of))

  module _ (blamed : IsBlamedAt scopes types place) where
    pub is_term : place.0 < length (places_of [] (statements_of types.resolved))
    is_term =
        subst (λ k. place.0 < k)
        (sym (ap (λ ss. length (places_of [] ss)) blamed.are_types.statements ∙ ap length (same_places blamed.commands)))
        blamed.inside

    pub has_parts : (ps : List TyNo) (e : Term) → map Some (map (type_of (types_of types.typing)) ps) ≡ Found → e ≡ Term_there → HasParts e (length ps)
    has_parts ps e same is =
        let cs = blamed.commands in
        let there : Place = place_in cs place.0 in
        let us = map (type_of (types_of types.typing)) ps in
        let term : e ≡ there.here = is ∙ ap (λ (p : Place). p.here) (same_place cs types.resolved place.0 blamed.are_types.statements) in
        subst (λ t. HasParts t (length ps)) (sym term)
        (subst (HasParts there.here) (length-map ps (type_of (types_of types.typing)))
        (parts_counted cs (found_of types.typing) blamed.dialect blamed.are_types.typed.least place.0 us (same ∙ numbers_same cs blamed.are_scopes)))

    pub none_missing : (n : ℕ) → Contains (place_row_numbered (table_of scopes) place.0).terms n → get_or (found_of types.typing) n None ≡ None → ⊥
    none_missing n there none =
        let cs = blamed.commands in
        let all = parts_found cs (found_of types.typing) blamed.dialect blamed.are_types.typed.least place.0 blamed.blamed.parts in
        let numbers = (place_row_numbered (table cs) place.0).terms in
        let among : Contains numbers n = subst (λ t. Contains (place_row_numbered t place.0).terms n) blamed.are_scopes.same_table there in
        All-contains (λ m. get_or (found_of types.typing) m None ≡ None → ⊥) numbers n
        (All-from_recursion (λ m. get_or (found_of types.typing) m None ≡ None → ⊥) numbers all) among none
