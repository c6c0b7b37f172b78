-- A command that stands alone has no type that is too large where there is none in its text.
use Rattle.std.proofs.Common.{◌≡◌, ◌⊎◌, ℕ, zero, suc, ◌+◌, ◌<◌, List, [], ◌∷◌, ◌++◌, length, get_or, Option, Some, None, refl, sym, ap, subst, ◌∙◌, inl, inr, arith}
use Rattle.std.specs.Option.{option_or}
use Rattle.std.proofs.lemmas.List.{length-append, length-map}
use Rattle.lam_token.specs.declared.span.Span.{Span}
use Rattle.lam_rules.specs.Types.{Typ, nodes}
use Rattle.lam_rules.specs.Typing.{Context}
use Rattle.lam_rules.specs.declared.rules.Dialect.{Dialect}
use Rattle.lam_syntax.specs.Trees.{CommandTree}
use Rattle.lam_scope.specs.Nameless.{abbreviations_after, names_after, written_in_command, first_over_limit, first_too_large}
use Rattle.lam_scope.specs.Places.{Place}
use Rattle.lam_scope.specs.PlacedTerms.{term_of, tree_in, command_terms, scope_after, commands_terms, document_terms}
use Rattle.lam_scope.proofs.FreeNamesDecide.{same_command_limit}
use Rattle.lam_scope.proofs.PlacedRows.{as_many_rows}
use Rattle.lam_typing.specs.Analysis.{IsSmallType, IsTooLarge, IsFirstTooLarge}
use Rattle.lam_typing.specs.LeastTypes.{IsLeastAt}
use Rattle.lam_typing.proofs.Existing.{exists_at}
use Rattle.lam_typing.proofs.WellFormedPlaces.{AreWellFormedPlaces}
use Rattle.lam_query.specs.Sizes.{IsSizeFault, of_written_type, of_term, IsSmall, places_in, span_numbered}
use Rattle.lam_query.specs.inner.Checked.{abbreviations_behind, names_behind, scope_behind}
use Rattle.lam_query.proofs.CheckedLists.{terms_append, too_large_append, too_large_push}
use Rattle.lam_query.proofs.PieceInDocument.{terms_counted_push}
use Rattle.lam_query.proofs.RowsAndTerms.{place_told}
use Rattle.lam_query.proofs.SameTerms.{same_terms, least_same}
use Rattle.lam_query.proofs.SeenAlike.{IsSeenAlike}
use Rattle.lam_query.proofs.SizeLaws.{document_places_wf, large_or_small}
use Rattle.lam_query.proofs.TermsAlone.{command_size}

-- ---- numbers of terms

-- a command behind others has as many terms as by itself
pub terms_alone : (pre : List CommandTree) (c : CommandTree) → document_terms pre ≡ [] → length (document_terms (pre ++ c ∷ [])) ≡ length (document_terms (c ∷ []))
terms_alone pre c none = omega (arith, terms_counted_push pre c, ap length none, as_many_rows (c ∷ []))

-- and with more commands behind it they are among those of all
pub terms_inside : (done : List CommandTree) (c : CommandTree) (rest : List CommandTree) (n : ℕ) → n < length (document_terms (c ∷ []))
    → length (document_terms done) + n < length (document_terms (done ++ c ∷ rest))
terms_inside done c rest n lt =
    let bs = abbreviations_behind done in
    let xs = names_behind done in
    let s = scope_behind done in
    let own = command_terms bs xs s c in
    let others = commands_terms (abbreviations_after bs c) (names_after xs c) (scope_after bs xs s c) rest in
    omega (
      arith,
      ap length (terms_append done (c ∷ rest)),
      length-append (document_terms done) (own ++ others),
      length-append own others,
      command_size bs xs s c,
      as_many_rows (c ∷ []),
    )

-- ---- a place that is too large

-- the first one that is too large is there, and is too large
pub first_is_large : (ps : List Place) (n : ℕ) (default : Place) (d : Dialect) → IsFirstTooLarge ps n d → (n < length ps) × IsTooLarge (get_or ps n default) d
first_is_large [] n default d first = absurd first
first_is_large (p ∷ ps) zero default d first = (omega arith, first)
first_is_large (p ∷ ps) (suc n) default d first = let rest = first_is_large ps n default d first.3 in let lt = rest.0 in (omega arith, rest.1)

-- where one is too large, there is a first one
none_is_large : (ps : List Place) (n : ℕ) (default : Place) (d : Dialect) → AreWellFormedPlaces ps → ((m : ℕ) → IsFirstTooLarge ps m d → ⊥)
    → n < length ps → IsTooLarge (get_or ps n default) d → ⊥
none_is_large [] n default d wf none lt large = omega arith
none_is_large (p ∷ ps) zero default d wf none lt large = none 0 large
none_is_large (p ∷ ps) (suc n) default d wf none lt large =
    let found = exists_at d p.scope p.here wf.0.0 wf.0.1 in
    by found.0 found.1 (large_or_small found.0) (none_is_large ps n default d wf.1)
  where
    by : (o : Option Typ) → IsLeastAt p.scope p.here o d → ((t : Typ) × (o ≡ Some t) × (4096 < nodes t)) ⊎ IsSmallType o
        → (((m : ℕ) → IsFirstTooLarge ps m d → ⊥) → n < length ps → IsTooLarge (get_or ps n default) d → ⊥) → ⊥
    by o least (inl (t, is, over)) rest = none 0 (t, subst (λ o. IsLeastAt p.scope p.here o d) is least, over)
    by o least (inr small) rest = rest (λ m first. none (suc m) (o, least, small, first)) (omega arith) large

-- ---- the command

none_of_all : (x y z : Option Span) → option_or x (option_or y z) ≡ None → y ≡ None
none_of_all None None z none = refl
none_of_all None (Some s) z none = absurd cc
none_of_all (Some s) y z none = absurd cc

pub no_written : (commands : List CommandTree) (d : Dialect) → IsSmall commands d → first_too_large [] commands ≡ None
no_written commands d small = by (first_too_large [] commands) refl
  where
    by : (o : Option Span) → first_too_large [] commands ≡ o → first_too_large [] commands ≡ None
    by None is = is
    by (Some s) is = absurd (small s (of_written_type is))

module _ (done pre : List CommandTree) (g h : Context) (c : CommandTree) (rest : List CommandTree) (d : Dialect) (seen : IsSeenAlike done pre g h c d)
    (small : IsSmall (done ++ c ∷ rest) d) where
  written_alone : first_too_large [] (pre ++ c ∷ []) ≡ None
  written_alone =
      let bs = abbreviations_behind done in
      let written = written_in_command c in
      let own : first_over_limit bs written ≡ None =
      none_of_all (first_too_large [] done) (first_over_limit bs written) (first_too_large (abbreviations_after bs c) rest)
      (sym (too_large_append done (c ∷ rest)) ∙ no_written (done ++ c ∷ rest) d small) in
      too_large_push pre c
      ∙ ap (λ o. option_or o (first_over_limit (abbreviations_behind pre) written)) seen.none_too_large
      ∙ sym (same_command_limit bs (abbreviations_behind pre) c seen.types_stand)
      ∙ own

  no_term : (n : ℕ) → IsFirstTooLarge (places_in (pre ++ c ∷ [])) n d → ⊥
  no_term n first =
      let alone = pre ++ c ∷ [] in
      let whole = done ++ c ∷ rest in
      let m = length (document_terms done) + n in
      let nothing = (term_of (tree_in [] 0)).place in
      let large = first_is_large (places_in alone) n nothing d first in
      let there = subst (λ (p : Place). IsTooLarge p d) (place_told alone n) large.1 in
      let among = large.0 in
      let lt : n < length (document_terms (c ∷ [])) = omega (arith, among, length-map (document_terms alone) (λ t. (term_of t).place), terms_alone pre c seen.no_terms) in
      let same = same_terms done pre g h c rest d seen n lt in
      let p = tree_in (document_terms whole) m in
      let q = tree_in (document_terms alone) n in
      let least = least_same done pre g h p q (Some there.0) d same there.1 in
      let here : IsTooLarge (get_or (places_in whole) m nothing) d = subst (λ (p : Place). IsTooLarge p d) (sym (place_told whole m)) (there.0, least, there.2) in
      let inside : m < length (places_in whole) = omega (arith, length-map (document_terms whole) (λ t. (term_of t).place), terms_inside done c rest n lt) in
      none_is_large (places_in whole) m nothing d (document_places_wf whole) (λ k first. small (span_numbered whole k) (of_term k (no_written whole d small) first)) inside here

  pub small_alone : (s : Span) → IsSizeFault (pre ++ c ∷ []) s d → ⊥
  small_alone s (of_written_type is) = let clash : Some s ≡ None = sym is ∙ written_alone in cc
  small_alone _ (of_term n none first) = no_term n first
