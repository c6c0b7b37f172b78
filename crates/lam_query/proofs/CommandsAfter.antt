-- A command further on in a text, by its tokens and by its tree, takes the same from outside, says and binds the same, and what is found of it is the
-- same, further on.
use Rattle.std.proofs.Common.{◌≡◌, ◌<◌, ◌+◌, ℕ, List, [], ◌∷◌, ◌++◌, length, map, get_or, refl, ap, sym, subst, ◌∙◌, Option, None}
use Rattle.std.specs.List.{All}
use Rattle.std.specs.Option.{option_map, option_or}
use Rattle.std.proofs.lemmas.List.{map-append, length-map, get_or-map}
use Rattle.std.proofs.lemmas.List.Elements.{All-head, All-tail}
use Rattle.lam_token.specs.declared.span.Span.{Span}
use Rattle.lam_token.specs.Edits.{span_placed}
use Rattle.lam_token.specs.Lexeme.{Lexeme}
use Rattle.lam_token.specs.MovedTokens.{moved_by}
use Rattle.lam_rules.specs.Types.{Typ}
use Rattle.lam_rules.specs.Typing.{Context}
use Rattle.lam_rules.specs.declared.rules.Dialect.{Dialect}
use Rattle.lam_syntax.specs.Trees.{word, CommandTree, definition, declaration, abbreviation, evaluation}
use Rattle.lam_scope.specs.declared.type_fault.TypeFault.{TypeFault}
use Rattle.lam_scope.specs.declared.type_fault.TypeFault.TheVariants.{UnboundTypeName, RepeatedLabel}
use Rattle.lam_scope.specs.Names.{Name}
use Rattle.lam_scope.specs.Expansions.{Abbreviation}
use Rattle.lam_scope.specs.Nameless.{statement, statements, abbreviations_after, names_after, written_in_command, faults_in, first_over_limit, first_too_large}
use Rattle.lam_scope.specs.Places.{places_of}
use Rattle.lam_scope.specs.PlacedTerms.{PlacedTree, term_of, command_terms, tree_in}
use Rattle.lam_scope.specs.Tables.{table, no_span, place_row_numbered}
use Rattle.lam_scope.proofs.PlacedPlaces.{same_places}
use Rattle.lam_typing.specs.Analysis.{IsFirstTooLarge}
use Rattle.lam_typing.specs.Answers.{answer, answers}
use Rattle.lam_typing.specs.Blaming.{Blamed, renumbered}
use Rattle.lam_typing.specs.Progress.{IsLowest, Shown}
use Rattle.lam_query.specs.Faults.{Fault}
use Rattle.lam_query.specs.Sizes.{places_in}
use Rattle.lam_query.specs.SyntaxFaults.{fault_at, AreSyntaxFaults}
use Rattle.lam_query.specs.TextFaults.{written_fault}
use Rattle.lam_query.specs.inner.Checked.{abbreviations_behind, names_behind, scope_behind, context_after, AreChecked}
use Rattle.lam_query.specs.inner.Entered.{Lookup, name_bound, type_name_bound, type_bound}
use Rattle.lam_query.specs.inner.Kept.{Found, written_too_large, term_too_large, typed, fault_after, command_after, found_after}
use Rattle.lam_query.specs.inner.OnePiece.{IsOwnOf}
use Rattle.lam_query.specs.inner.Rows.{AgreeOn, entries_of, types_of, SeesAs, IsWrittenIn, own_fault, IsFoundIn, StandInFound, IsFoundOf}
use Rattle.lam_query.proofs.CheckedLists.{names_push, scope_push, too_large_push}
use Rattle.lam_query.proofs.RowsAndTerms.{get_or-told}
use Rattle.lam_query.proofs.TermsAlone.{command_row, command_size}
use Rattle.lam_query.proofs.TokensAfter.{fault_there, own_placed, syntax_placed}
use Rattle.lam_query.proofs.TypesAfter.{type_fault_there, expansion_kept, faults_there, over_limit_there}
use Rattle.lam_query.proofs.TermsAfter.{command_there, spans_of, command_written, command_free, command_type_names, command_stated, abbreviations_kept, names_kept, scope_kept, command_spans}

module _ (place : ℕ → ℕ) where
  -- ---- what a command binds

  name_kept : (c : CommandTree) → name_bound (command_there place c) ≡ name_bound c
  name_kept (definition (word x s) t) = refl
  name_kept (declaration (word x s) u) = refl
  name_kept (abbreviation w u) = refl
  name_kept (evaluation t) = refl

  type_name_kept : (c : CommandTree) → type_name_bound (command_there place c) ≡ type_name_bound c
  type_name_kept (definition w t) = refl
  type_name_kept (declaration w u) = refl
  type_name_kept (abbreviation (word x s) u) = refl
  type_name_kept (evaluation t) = refl

  type_kept : (bs : List Abbreviation) (c : CommandTree) → type_bound bs (command_there place c) ≡ type_bound bs c
  type_kept bs (definition w t) = refl
  type_kept bs (declaration w u) = refl
  type_kept bs (abbreviation w u) = expansion_kept place bs u
  type_kept bs (evaluation t) = refl

  context_kept : (g : Context) (c : CommandTree) (entry : Option Typ) → context_after g (command_there place c) entry ≡ context_after g c entry
  context_kept g (definition w t) entry = refl
  context_kept g (declaration w u) entry = refl
  context_kept g (abbreviation w u) entry = refl
  context_kept g (evaluation t) entry = refl

  -- ---- what a document with it says

  statements_kept : (bs : List Abbreviation) (xs : List (Option Name)) (done : List CommandTree) (c : CommandTree) (rest : List CommandTree)
      → statements bs xs (done ++ command_there place c ∷ rest) ≡ statements bs xs (done ++ c ∷ rest)
  statements_kept bs xs [] c rest =
      λ i. command_stated place bs xs c i ∷ statements (abbreviations_kept place bs c i) (names_kept place xs c i) rest
  statements_kept bs xs (e ∷ done) c rest =
      ap (λ ss. statement bs xs e ∷ ss) (statements_kept (abbreviations_after bs e) (names_after xs e) done c rest)

  places_kept : (done : List CommandTree) (c : CommandTree) (rest : List CommandTree)
      → places_in (done ++ command_there place c ∷ rest) ≡ places_in (done ++ c ∷ rest)
  places_kept done c rest =
      sym (same_places (done ++ command_there place c ∷ rest)) ∙ ap (places_of []) (statements_kept [] [] done c rest) ∙ same_places (done ++ c ∷ rest)

  -- ---- its written types

  limit_there : (bs : List Abbreviation) (c : CommandTree)
      → first_over_limit bs (written_in_command (command_there place c)) ≡ option_map (span_placed place) (first_over_limit bs (written_in_command c))
  limit_there bs c = ap (first_over_limit bs) (command_written place c) ∙ over_limit_there place bs (written_in_command c)

  written_told : (ws : List TypeFault) → map (fault_there place) (map written_fault ws) ≡ map written_fault (map (type_fault_there place) ws)
  written_told [] = refl
  written_told (UnboundTypeName s ∷ ws) = ap (λ fs. fault_there place (written_fault (UnboundTypeName s)) ∷ fs) (written_told ws)
  written_told (RepeatedLabel s ∷ ws) = ap (λ fs. fault_there place (written_fault (RepeatedLabel s)) ∷ fs) (written_told ws)

  written_faults : (bs : List Abbreviation) (c : CommandTree)
      → map (fault_there place) (map written_fault (faults_in bs (written_in_command c)))
      ≡ map written_fault (faults_in bs (written_in_command (command_there place c)))
  written_faults bs c =
      written_told (faults_in bs (written_in_command c))
      ∙ ap (map written_fault) (sym (ap (faults_in bs) (command_written place c) ∙ faults_there place bs (written_in_command c)))

  -- ---- what is known of all commands with it

  checked_kept : (done : List CommandTree) (c : CommandTree) (g : Context) (found : List (Option Typ)) (blames : List Blamed) (d : Dialect)
      → first_too_large [] done ≡ None → AreChecked (done ++ c ∷ []) g found blames d → AreChecked (done ++ command_there place c ∷ []) g found blames d
  checked_kept done c g found blames d none are =
      let bs = abbreviations_behind done in
      let xs = names_behind done in
      let there = command_there place c in
      let scope = scope_push done there ∙ scope_kept place bs xs (scope_behind done) c ∙ sym (scope_push done c) in
      let names = names_push done there ∙ names_kept place xs c ∙ sym (names_push done c) in
      let here = ap (λ o. option_or o (first_over_limit bs (written_in_command c))) (sym none) ∙ sym (too_large_push done c) ∙ are.none_too_large in
      record {
        lowest = subst (λ s. IsLowest s g d) (sym scope) are.lowest;
        lengths = ap length names ∙ are.lengths;
        shown = subst (λ ps. Shown ps 0 found blames d) (sym (places_kept done c [])) are.shown;
        none_too_large =
            too_large_push done there ∙ ap (λ o. option_or o (first_over_limit bs (written_in_command there))) none
            ∙ limit_there bs c ∙ ap (option_map (span_placed place)) here;
      }

  -- ---- where its terms are

  terms_kept : (c : CommandTree) → length (spans_of (command_terms [] [] [] (command_there place c))) ≡ length (spans_of (command_terms [] [] [] c))
  terms_kept c = ap length (command_spans place [] [] [] c) ∙ length-map (spans_of (command_terms [] [] [] c)) (span_placed place)

  rows_counted : (c : CommandTree) → length (spans_of (command_terms [] [] [] c)) ≡ length (table (c ∷ [])).places
  rows_counted c = length-map (command_terms [] [] [] c) (λ t. (term_of t).span) ∙ command_size [] [] [] c

  rows_kept : (c : CommandTree) → length (table (command_there place c ∷ [])).places ≡ length (table (c ∷ [])).places
  rows_kept c = sym (rows_counted (command_there place c)) ∙ terms_kept c ∙ rows_counted c

  row_spanned : (c : CommandTree) (n : ℕ) → (place_row_numbered (table (c ∷ [])) n).span ≡ get_or (spans_of (command_terms [] [] [] c)) n no_span
  row_spanned c n =
      let span : PlacedTree → Span = λ t. (term_of t).span in
      command_row [] [] [] c n ∙ sym (get_or-told span (command_terms [] [] [] c) n (tree_in [] 0))

  row_there : (c : CommandTree) (n : ℕ) → n < length (table (c ∷ [])).places
      → (place_row_numbered (table (command_there place c ∷ [])) n).span ≡ span_placed place (place_row_numbered (table (c ∷ [])) n).span
  row_there c n inside =
      let spans = spans_of (command_terms [] [] [] c) in
      row_spanned (command_there place c) n
      ∙ ap (λ ss. get_or ss n no_span) (command_spans place [] [] [] c)
      ∙ get_or-map (span_placed place) spans n no_span no_span (subst (λ m. n < m) (sym (rows_counted c)) inside)
      ∙ ap (span_placed place) (sym (row_spanned c n))

  blames_there : (c : CommandTree) (own : List Blamed) → All (λ b. b.number < length (table (c ∷ [])).places) own
      → map (fault_there place) (map (own_fault c) own) ≡ map (own_fault (command_there place c)) own
  blames_there c [] inside = refl
  blames_there c (b ∷ own) inside =
      let within : Blamed → Type 0 = λ m. m.number < length (table (c ∷ [])).places in
      let span = sym (row_there c b.number (All-head within b own inside)) in
      let others = blames_there c own (All-tail within b own inside) in
      λ i. fault_at b.code (span i) ∷ others i

-- ---- what is found of it

written_after : (n : ℕ) (bs : List Abbreviation) (c : CommandTree) (ts : List Typ) (f : Found)
    → IsWrittenIn bs c ts f → IsWrittenIn bs (command_after n c) ts (found_after n f)
written_after n bs c ts (written_too_large s) is = limit_there (λ o. o + n) bs c ∙ ap (option_map (span_placed (λ o. o + n))) is
written_after n bs c ts (term_too_large s) is =
    (limit_there (λ o. o + n) bs c ∙ ap (option_map (span_placed (λ o. o + n))) is.0, type_name_kept (λ o. o + n) c ∙ is.1)
written_after n bs c ts (typed t) is = (
  limit_there (λ o. o + n) bs c ∙ ap (option_map (span_placed (λ o. o + n))) is.0,
  λ x bound. is.1 x (sym (type_name_kept (λ o. o + n) c) ∙ bound) ∙ sym (type_kept (λ o. o + n) bs c),
)

stand_after : (n : ℕ) (ts : List Typ) (f : Found) → StandInFound ts f → StandInFound ts (found_after n f)
stand_after n ts (written_too_large s) stand = stand
stand_after n ts (term_too_large s) stand = stand
stand_after n ts (typed t) stand = stand

in_after : (n : ℕ) (done : List CommandTree) (g : Context) (found : List (Option Typ)) (blames : List Blamed) (c : CommandTree) (ts : List Typ)
    (f : Found) (d : Dialect) → first_too_large [] done ≡ None
    → IsFoundIn done g found blames c ts f d → IsFoundIn done g found blames (command_after n c) ts (found_after n f) d
in_after n done g found blames c ts (written_too_large s) d none is = is
in_after n done g found blames c ts (term_too_large s) d none is =
    let place : ℕ → ℕ = λ o. o + n in
    record {
      number = is.number;
      inside = subst (λ m. is.number < m) (sym (rows_kept place c)) is.inside;
      first = λ rest. subst (λ ps. IsFirstTooLarge ps (length found + is.number) d) (sym (places_kept place done c rest)) (is.first rest);
      span = ap (span_placed place) is.span ∙ sym (row_there place c is.number is.inside);
    }
in_after n done g found blames c ts (typed t) d none is =
    let place : ℕ → ℕ = λ o. o + n in
    let there = command_after n c in
    let entry = answer ts t.bound in
    let all = found ++ answers ts t.types in
    let blamed = blames ++ renumbered (length found) is.own in
    record {
      own = is.own;
      inside = subst (λ m. All (λ b. b.number < m) is.own) (sym (rows_kept place c)) is.inside;
      checked =
          subst (λ h. AreChecked (done ++ there ∷ []) h all blamed d) (sym (context_kept place g c entry))
          (checked_kept place done c (context_after g c entry) all blamed d none is.checked);
      faults =
          ap (map (fault_after n)) is.faults
          ∙ map-append (fault_after n) (map written_fault (faults_in (abbreviations_behind done) (written_in_command c))) (map (own_fault c) is.own)
          ∙ (λ i. written_faults place (abbreviations_behind done) c i ++ blames_there place c is.own is.inside i);
    }

-- ---- further on in a text

-- the tokens of a piece further on spell its command further on
pub own_after : (n : ℕ) (tokens : List Lexeme) (own : List CommandTree) → IsOwnOf tokens own → IsOwnOf (map (moved_by n) tokens) (map (command_after n) own)
own_after n tokens own is = own_placed (λ o. o + n) tokens own is

-- they have the same faults further on
pub syntax_after : (n : ℕ) (tokens : List Lexeme) (fs : List Fault) → AreSyntaxFaults tokens fs → AreSyntaxFaults (map (moved_by n) tokens) (map (fault_after n) fs)
syntax_after n tokens fs are = syntax_placed (λ o. o + n) tokens fs are

-- the command binds the same name
pub name_bound_after : (n : ℕ) (c : CommandTree) → name_bound (command_after n c) ≡ name_bound c
name_bound_after n c = name_kept (λ o. o + n) c

-- and the same type name
pub type_name_bound_after : (n : ℕ) (c : CommandTree) → type_name_bound (command_after n c) ≡ type_name_bound c
type_name_bound_after n c = type_name_kept (λ o. o + n) c

-- the same is found of it, further on
pub found_after_is : (n : ℕ) (names types : Lookup) (c : CommandTree) (ts : List Typ) (f : Found) (d : Dialect)
    → IsFoundOf names types c ts f d → IsFoundOf names types (command_after n c) ts (found_after n f) d
found_after_is n names types c ts f d is =
    let place : ℕ → ℕ = λ o. o + n in
    record {
      stand = stand_after n ts f is.stand;
      written = λ bs agree.
          written_after n bs c ts f (is.written bs (subst (λ xs. AgreeOn xs types (types_of bs)) (command_type_names place c) agree));
      found = λ done g found blames checked sees.
          let seen : SeesAs c names types done g = record {
            names = subst (λ xs. AgreeOn xs names (entries_of done g)) (command_free place c) sees.names;
            types = subst (λ xs. AgreeOn xs types (types_of (abbreviations_behind done))) (command_type_names place c) sees.types;
          } in
          in_after n done g found blames c ts f d checked.none_too_large (is.found done g found blames checked seen);
    }
