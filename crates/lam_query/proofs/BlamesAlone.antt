-- The terms of a command alone that are to blame are those that its row tells of.
use Rattle.std.proofs.Common.{◌≡◌, inl, inr, ℕ, zero, suc, ◌+◌, ◌-◌, ◌<◌, List, [], ◌∷◌, ◌++◌, length, get_or, map, drop, Option, Some, None, refl, ap, sym, subst, ◌∙◌, arith}
use Rattle.std.specs.List.{AllByRecursion}
use Rattle.std.specs.Option.{option_or}
use Rattle.std.proofs.lemmas.List.{drop_at, length-map}
use Rattle.lam_token.specs.declared.span.Span.{Span}
use Rattle.lam_rules.specs.Types.{Typ}
use Rattle.lam_rules.specs.Terms.{unit_term}
use Rattle.lam_rules.specs.Typing.{Context}
use Rattle.lam_rules.specs.declared.rules.Dialect.{Dialect}
use Rattle.lam_syntax.specs.Trees.{CommandTree}
use Rattle.lam_scope.specs.Alike.{AreAlikeStatements}
use Rattle.lam_scope.specs.Nameless.{statement, written_in_command, first_over_limit, first_too_large}
use Rattle.lam_scope.specs.Places.{Place, Statement, places_of}
use Rattle.lam_scope.specs.PlacedTerms.{term_of, document_terms, tree_in}
use Rattle.lam_scope.proofs.FreeNamesDecide.{same_command_limit, alike_statements}
use Rattle.lam_scope.proofs.PlacedRows.{as_many_rows}
use Rattle.lam_typing.specs.Analysis.{IsSmallType, AreSmall, IsTooLarge, IsFirstTooLarge}
use Rattle.lam_typing.specs.Blaming.{Blamed, IsBlamed, IsBlamedFor, AreBlamed, renumbered}
use Rattle.lam_typing.specs.LeastTypes.{IsLeastAt}
use Rattle.lam_typing.specs.Progress.{Shown}
use Rattle.lam_typing.proofs.AlikeStatements.{statement_shown}
use Rattle.lam_typing.proofs.MovedBlames.{shown_moved}
use Rattle.lam_typing.proofs.Together.{shown_both}
use Rattle.lam_query.specs.Sizes.{IsSizeFault, of_written_type, of_term, places_in}
use Rattle.lam_query.specs.inner.Checked.{abbreviations_behind, names_behind, scope_behind, AreChecked}
use Rattle.lam_query.proofs.BlameLaws.{one_blames}
use Rattle.lam_query.proofs.Checked.{places_push}
use Rattle.lam_query.proofs.CheckedLists.{too_large_push, next_wf}
use Rattle.lam_query.proofs.PieceInDocument.{terms_counted_push}
use Rattle.lam_query.proofs.RowsAndTerms.{place_told}
use Rattle.lam_query.proofs.SameTerms.{same_terms, least_same}
use Rattle.lam_query.proofs.SeenAlike.{IsSeenAlike}
use Rattle.lam_query.proofs.Small.{small_not_large, least_at}
use Rattle.lam_query.proofs.NoneLarge.{none_second}
use Rattle.lam_query.proofs.SizesAlone.{first_is_large}

-- ---- lists of blames

same_behind : {A : Type 0} (xs ys zs : List A) → xs ++ ys ≡ xs ++ zs → ys ≡ zs
same_behind xs ys zs same = sym (drop_at xs ys (length xs) refl) ∙ ap (drop (length xs)) same ∙ drop_at xs zs (length xs) refl

-- the same blames, with numbers that are less by k
abbrev counted_back : ℕ → List Blamed → List Blamed
counted_back k bs = map (λ b. record { number = b.number - k; code = b.code }) bs

back_again : (k : ℕ) (bs : List Blamed) → counted_back k (renumbered k bs) ≡ bs
back_again k [] = refl
back_again k (b ∷ bs) =
    let number : b.number + k - k ≡ b.number = omega arith in
    let rest = back_again k bs in
    λ i. record { number = number i; code = b.code } ∷ rest i

same_renumbered : (k : ℕ) (bs cs : List Blamed) → renumbered k bs ≡ renumbered k cs → bs ≡ cs
same_renumbered k bs cs same = sym (back_again k bs) ∙ ap (counted_back k) same ∙ back_again k cs

-- the blame is that of one of these places, of which the first has this number
pub record IsBlameOf (n : ℕ) (ps : List Place) (d : Dialect) (b : Blamed) : Type 0 where
  pub at : ℕ
  pub number : b.number ≡ n + at
  pub inside : at < length ps
  pub blamed : IsBlamed (get_or ps at (record { scope = []; here = unit_term })).scope (get_or ps at (record { scope = []; here = unit_term })).here d
  pub why : IsBlamedFor (get_or ps at (record { scope = []; here = unit_term })).scope (get_or ps at (record { scope = []; here = unit_term })).here b.code d

one_further : (n : ℕ) (p : Place) (ps : List Place) (d : Dialect) (bs : List Blamed) → AllByRecursion (IsBlameOf (n + 1) ps d) bs → AllByRecursion (IsBlameOf n (p ∷ ps) d) bs
one_further n p ps d [] all = tt
one_further n p ps d (b ∷ bs) all =
    let first : IsBlameOf (n + 1) ps d b = all.0 in
    (record { at = suc first.at; number = omega (arith, first.number); inside = omega (arith, first.inside); blamed = first.blamed; why = first.why }, one_further n p ps d bs all.1)

pub each_blamed : (n : ℕ) (ps : List Place) (bs : List Blamed) (d : Dialect) → AreBlamed n ps bs d → AllByRecursion (IsBlameOf n ps d) bs
each_blamed n [] bs d are = subst (AllByRecursion (IsBlameOf n [] d)) (sym are) tt
each_blamed n (p ∷ ps) bs d (inl are) = one_further n p ps d bs (each_blamed (n + 1) ps bs d are.1)
each_blamed n (p ∷ ps) bs d (inr are) =
    subst (AllByRecursion (IsBlameOf n (p ∷ ps) d)) (sym are.2)
    (record { at = zero; number = omega arith; inside = omega arith; blamed = are.3; why = are.4 }, one_further n p ps d are.1 (each_blamed (n + 1) ps are.1 d are.5))

-- ---- places that are too large

small_at : (os : List (Option Typ)) (n : ℕ) → AreSmall os → IsSmallType (get_or os n None)
small_at [] n small = tt
small_at (o ∷ os) zero small = small.0
small_at (o ∷ os) (suc n) small = small_at os n small.1

-- ---- the command alone, and behind the commands of its text

module _ (done pre : List CommandTree) (g h : Context) (c : CommandTree) (d : Dialect) (seen : IsSeenAlike done pre g h c d) where
  abbrev Alone : List CommandTree
  Alone = pre ++ c ∷ []

  abbrev Whole : List CommandTree
  Whole = done ++ c ∷ []

  -- what it states in the text
  abbrev Stated : Statement
  Stated = statement (abbreviations_behind done) (names_behind done) c

  -- and alone
  abbrev StatedAlone : Statement
  StatedAlone = statement (abbreviations_behind pre) (names_behind pre) c

  states_alike : AreAlikeStatements g Stated h StatedAlone
  states_alike =
      alike_statements (abbreviations_behind done) (abbreviations_behind pre) (names_behind done) g (names_behind pre) h c seen.lengths seen.alone_lengths
      seen.names_mean seen.types_stand

  alone_places : places_in Alone ≡ places_of (scope_behind pre) (StatedAlone ∷ [])
  alone_places =
      places_push pre c
      ∙ ap (λ ts. map (λ t. (term_of t).place) ts ++ places_of (scope_behind pre) (StatedAlone ∷ [])) seen.no_terms

  -- what is found of the command alone is found behind the commands of its text
  shown_there : (found os : List (Option Typ)) (blames bs : List Blamed) → Shown (places_in done) 0 found blames d → Shown (places_in Alone) 0 os bs d
      → Shown (places_in Whole) 0 (found ++ os) (blames ++ renumbered (length found) bs) d
  shown_there found os blames bs before alone =
      let here = statement_shown (scope_behind done) (scope_behind pre) g h d seen.lowest seen.alone_lowest Stated StatedAlone states_alike
      0 os bs (next_wf done c) (subst (λ ps. Shown ps 0 os bs d) alone_places alone) in
      let behind = shown_moved (places_of (scope_behind done) (Stated ∷ [])) (length found) os bs d here in
      subst (λ ps. Shown ps 0 (found ++ os) (blames ++ renumbered (length found) bs) d) (sym (places_push done c))
      (shown_both (places_in done) (places_of (scope_behind done) (Stated ∷ [])) 0 (length found) found os blames (renumbered (length found) bs) d
      (omega arith) before behind)

  -- so the same terms are to blame
  pub own_blames : (found os : List (Option Typ)) (blames bs own : List Blamed) → Shown (places_in done) 0 found blames d → Shown (places_in Alone) 0 os bs d
      → AreBlamed 0 (places_in Whole) (blames ++ renumbered (length found) own) d → bs ≡ own
  own_blames found os blames bs own before alone whole =
      let there = shown_there found os blames bs before alone in
      same_renumbered (length found) bs own
      (same_behind blames (renumbered (length found) bs) (renumbered (length found) own)
      (one_blames d 0 (places_in Whole) (blames ++ renumbered (length found) bs) (blames ++ renumbered (length found) own) there.blamed whole))

  -- ---- no type of it is too large

  as_many : length (document_terms Alone) ≡ length (document_terms (c ∷ []))
  as_many = omega (arith, terms_counted_push pre c, as_many_rows (c ∷ []), ap length seen.no_terms)

  pub inside_alone : (n : ℕ) → n < length (places_in Alone) → n < length (document_terms (c ∷ []))
  inside_alone n lt = omega (arith, lt, as_many, length-map (document_terms Alone) (λ t. (term_of t).place))

  inside_there : (n : ℕ) → n < length (document_terms (c ∷ [])) → length (document_terms done) + n < length (places_in Whole)
  inside_there n lt = omega (arith, lt, terms_counted_push done c, as_many_rows (c ∷ []), length-map (document_terms Whole) (λ t. (term_of t).place))

  written_alone : first_too_large [] Whole ≡ None → first_too_large [] Alone ≡ None
  written_alone none =
      let own = first_over_limit (abbreviations_behind done) (written_in_command c) in
      too_large_push pre c
      ∙ ap (λ x. option_or x (first_over_limit (abbreviations_behind pre) (written_in_command c))) seen.none_too_large
      ∙ sym (same_command_limit (abbreviations_behind done) (abbreviations_behind pre) c seen.types_stand)
      ∙ none_second (first_too_large [] done) own (sym (too_large_push done c) ∙ none)

  term_alone_small : (k : Context) (found : List (Option Typ)) (blames : List Blamed) → AreChecked Whole k found blames d
      → (n : ℕ) → IsFirstTooLarge (places_in Alone) n d → ⊥
  term_alone_small k found blames checked n first =
      let nothing : Place = (term_of (tree_in [] 0)).place in
      let large = first_is_large (places_in Alone) n nothing d first in
      let lt = inside_alone n large.0 in
      let alone = subst (λ (p : Place). IsTooLarge p d) (place_told Alone n) large.1 in
      let m = length (document_terms done) + n in
      let p = tree_in (document_terms Whole) m in
      let q = tree_in (document_terms Alone) n in
      let there =
      subst (λ (p : Place). IsLeastAt p.scope p.here (get_or found m None) d) (place_told Whole m)
      (least_at (places_in Whole) found m nothing d (inside_there n lt) checked.shown.least) in
      small_not_large (term_of p).place (get_or found m None) d there (small_at found m checked.shown.small)
      (alone.0, least_same done pre g h p q (Some alone.0) d (same_terms done pre g h c [] d seen n lt) alone.1, alone.2)

  pub no_fault_alone : (k : Context) (found : List (Option Typ)) (blames : List Blamed) → AreChecked Whole k found blames d → (s : Span) → IsSizeFault Alone s d → ⊥
  no_fault_alone k found blames checked s (of_written_type is) =
      let no_way : Some s ≡ None = sym is ∙ written_alone checked.none_too_large in
      cc
  no_fault_alone k found blames checked _ (of_term n none large) = term_alone_small k found blames checked n large
