-- From what is known of the first commands of a document to what is known of one command more, and in the end of all.
use Rattle.std.proofs.Common.{◌≡◌, ◌+◌, List, [], ◌∷◌, ◌++◌, append_assoc, length, map, refl, ap, sym, subst, ◌∙◌, Option, Some, None, arith}
use Rattle.std.specs.Option.{option_or}
use Rattle.std.proofs.lemmas.List.{map-append, length-append}
use Rattle.lam_token.specs.declared.span.Span.{Span}
use Rattle.lam_rules.specs.Types.{Typ}
use Rattle.lam_rules.specs.Typing.{Context}
use Rattle.lam_rules.specs.declared.rules.Dialect.{Dialect}
use Rattle.lam_syntax.specs.Trees.{CommandTree}
use Rattle.lam_scope.specs.Names.{Name}
use Rattle.lam_scope.specs.Alike.{AreAlikeStatements}
use Rattle.lam_scope.specs.Expansions.{Abbreviation}
use Rattle.lam_scope.specs.FreeNames.{free_type_names_in_command}
use Rattle.lam_scope.specs.Meanings.{StandForTheSame}
use Rattle.lam_scope.specs.Nameless.{statement, abbreviations_after, names_after, written_in_command, faults_in, first_over_limit, faults, first_too_large}
use Rattle.lam_scope.specs.Places.{Place, Statement, places_of}
use Rattle.lam_scope.specs.PlacedTerms.{PlacedTree, term_of, command_terms, scope_after, commands_terms, document_terms}
use Rattle.lam_scope.proofs.FreeNamesDecide.{same_command_faults, same_command_limit, alike_statements}
use Rattle.lam_typing.specs.Analysis.{IsFirstTooLarge}
use Rattle.lam_typing.specs.Binds.{BindsEntry, scope_with}
use Rattle.lam_typing.specs.Blaming.{Blamed, renumbered}
use Rattle.lam_typing.specs.Progress.{IsLowest, Shown, next_is_too_large, NextIs, ShownFront}
use Rattle.lam_typing.specs.WrittenScopes.{scope_of_entries}
use Rattle.lam_typing.proofs.AlikeStatements.{lowest_of_entries, lowest_with, statement_shown, statement_stopped, statement_binds}
use Rattle.lam_typing.proofs.Finishing.{first_behind}
use Rattle.lam_typing.proofs.LeastIn.{lowest}
use Rattle.lam_typing.proofs.MovedBlames.{shown_moved}
use Rattle.lam_typing.proofs.Together.{shown_both, shown_none}
use Rattle.lam_query.specs.Sizes.{IsSmall, places_in}
use Rattle.lam_query.specs.TextFaults.{written_fault, blame_fault, AreTypeFaults, small}
use Rattle.lam_query.specs.inner.Checked.{abbreviations_behind, names_behind, scope_behind, context_after, AreChecked, IsEnvironmentFor}
use Rattle.lam_query.proofs.CheckedLists.{names_push, scope_push, scope_bound, context_bound, lengths_after, terms_append, terms_push, command_places, faults_push, too_large_append, too_large_push, next_wf}
use Rattle.lam_query.proofs.Small.{is_small}

-- ---- the places of a command behind others

-- those in front of it, and its own
pub places_push : (done : List CommandTree) (c : CommandTree)
    → places_in (done ++ c ∷ []) ≡ places_in done ++ places_of (scope_behind done) (statement (abbreviations_behind done) (names_behind done) c ∷ [])
places_push done c =
    ap (map (λ t. (term_of t).place)) (terms_push done c)
    ∙ map-append (λ t. (term_of t).place) (document_terms done) _
    ∙ ap (λ ps. places_in done ++ ps) (sym (command_places (abbreviations_behind done) (names_behind done) (scope_behind done) c))

-- and those of the commands behind it
pub places_append : (done : List CommandTree) (c : CommandTree) (rest : List CommandTree)
    → (behind : List Place) × (places_in (done ++ c ∷ rest)
    ≡ places_in done ++ (places_of (scope_behind done) (statement (abbreviations_behind done) (names_behind done) c ∷ []) ++ behind))
places_append done c rest =
    let place : PlacedTree → Place = λ t. (term_of t).place in
    let bs = abbreviations_behind done in
    let xs = names_behind done in
    let s = scope_behind done in
    let own = command_terms bs xs s c in
    let others = commands_terms (abbreviations_after bs c) (names_after xs c) (scope_after bs xs s c) rest in (
      map place others,
      ap (map place) (terms_append done (c ∷ rest))
          ∙ map-append place (document_terms done) (own ++ others)
          ∙ ap (λ ps. places_in done ++ ps) (map-append place own others ∙ ap (λ ps. ps ++ map place others) (sym (command_places bs xs s c))),
    )

-- ---- at the beginning

pub none_checked : (d : Dialect) → AreChecked [] [] [] [] d
none_checked d = record { lowest = lowest [] [] d tt tt; lengths = refl; shown = shown_none 0 d; none_too_large = refl }

-- ---- places behind others

-- the first place that is too large, where the places before it were looked at
first_stopped : (before ps behind : List Place) (found more : List (Option Typ)) (blames codes : List Blamed) (d : Dialect) → Shown before 0 found blames d
    → ShownFront ps 0 more codes next_is_too_large d → IsFirstTooLarge (before ++ (ps ++ behind)) (length found + length more) d
first_stopped before ps behind found more blames codes d shown stopped = by stopped.rest stopped.are stopped.next
  where
    by : (rest : List Place) → ps ≡ stopped.front ++ rest → NextIs next_is_too_large rest d
        → IsFirstTooLarge (before ++ (ps ++ behind)) (length found + length more) d
    by [] are next = absurd next
    by (q ∷ qs) are next =
        let front = stopped.front in
        let there : before ++ (ps ++ behind) ≡ (before ++ front) ++ q ∷ (qs ++ behind) =
        ap (λ xs. before ++ (xs ++ behind)) are
        ∙ ap (λ xs. before ++ xs) (append_assoc front (q ∷ qs) behind)
        ∙ sym (append_assoc before front (q ∷ (qs ++ behind))) in
        let both = shown_both before front 0 (length found) found more blames (renumbered (length found) codes) d (omega arith) shown
        (shown_moved front (length found) more codes d stopped.shown) in
        let first = first_behind (before ++ front) (qs ++ behind) (found ++ more) q d both.least both.small next in
        subst (λ xs. IsFirstTooLarge xs (length found + length more) d) (sym there)
        (subst (λ n. IsFirstTooLarge ((before ++ front) ++ q ∷ (qs ++ behind)) n d) (length-append found more) first)

-- ---- the written types of one command more, in an environment in which its type names stand for the same

module _ (done : List CommandTree) (c : CommandTree) (types : List Abbreviation)
    (same : StandForTheSame (free_type_names_in_command c) (abbreviations_behind done) types) where
  pub command_faults : faults [] (done ++ c ∷ []) ≡ faults [] done ++ faults_in types (written_in_command c)
  command_faults = faults_push done c ∙ ap (λ fs. faults [] done ++ fs) (same_command_faults (abbreviations_behind done) types c same)

  -- the first one that is too large, whatever comes after the command
  pub written_too_large : (s : Span) (rest : List CommandTree) → first_too_large [] done ≡ None
      → first_over_limit types (written_in_command c) ≡ Some s → first_too_large [] (done ++ c ∷ rest) ≡ Some s
  written_too_large s rest none over =
      too_large_append done (c ∷ rest)
      ∙ ap (λ o. option_or o (first_too_large (abbreviations_behind done) (c ∷ rest))) none
      ∙ ap (λ o. option_or o (first_too_large (abbreviations_after (abbreviations_behind done) c) rest))
      (same_command_limit (abbreviations_behind done) types c same ∙ over)

-- ---- one command more

module _ (done : List CommandTree) (g : Context) (found : List (Option Typ)) (blames : List Blamed) (d : Dialect) (checked : AreChecked done g found blames d)
    (c : CommandTree) (types : List Abbreviation) (names : List (Option Name)) (entries : Context) (environment : IsEnvironmentFor c done g types names entries) where
  -- what the command states in the document
  abbrev Stated : Statement
  Stated = statement (abbreviations_behind done) (names_behind done) c

  -- and in its own environment
  abbrev Alone : Statement
  Alone = statement types names c

  states_alike : AreAlikeStatements g Stated entries Alone
  states_alike =
      alike_statements (abbreviations_behind done) types (names_behind done) g names entries c checked.lengths environment.lengths
      environment.names_mean environment.types_stand

  entries_lowest : IsLowest (scope_of_entries entries) entries d
  entries_lowest = lowest_of_entries entries d environment.wf

  -- the entry that it binds
  more_lowest : (entry : Option Typ) → BindsEntry (scope_of_entries entries) Alone entry d
      → IsLowest (scope_behind (done ++ c ∷ [])) (context_after g c entry) d
  more_lowest entry binds =
      let bs = abbreviations_behind done in
      let xs = names_behind done in
      let s = scope_behind done in
      let low = lowest_with s g Stated entry d (next_wf done c) checked.lowest
      (statement_binds s (scope_of_entries entries) g entries d checked.lowest entries_lowest Stated Alone entry states_alike binds) in
      subst (λ r. IsLowest r (context_after g c entry) d) (sym (scope_push done c ∙ scope_bound bs xs s c))
      (subst (λ h. IsLowest (scope_with s Stated) h d) (sym (context_bound bs xs g c entry)) low)

  pub command_checked : (more : List (Option Typ)) (codes : List Blamed) (entry : Option Typ)
      → first_over_limit types (written_in_command c) ≡ None
      → Shown (places_of (scope_of_entries entries) (Alone ∷ [])) 0 more codes d
      → BindsEntry (scope_of_entries entries) Alone entry d
      → AreChecked (done ++ c ∷ []) (context_after g c entry) (found ++ more) (blames ++ renumbered (length found) codes) d
  command_checked more codes entry within shown binds = record {
    lowest = more_lowest entry binds;
    lengths = ap length (names_push done c) ∙ lengths_after (names_behind done) g c entry checked.lengths;
    shown =
        let here = statement_shown (scope_behind done) (scope_of_entries entries) g entries d checked.lowest entries_lowest Stated Alone states_alike
        0 more codes (next_wf done c) shown in
        let behind = shown_moved (places_of (scope_behind done) (Stated ∷ [])) (length found) more codes d here in
        subst (λ ps. Shown ps 0 (found ++ more) (blames ++ renumbered (length found) codes) d) (sym (places_push done c))
        (shown_both (places_in done) (places_of (scope_behind done) (Stated ∷ [])) 0 (length found) found more blames (renumbered (length found) codes) d
        (omega arith) checked.shown behind);
    none_too_large = too_large_push done c ∙ ap (λ o. option_or o (first_over_limit (abbreviations_behind done) (written_in_command c))) checked.none_too_large
        ∙ same_command_limit (abbreviations_behind done) types c environment.types_stand ∙ within;
  }

  -- a place of it that is too large, whatever comes after it
  pub place_too_large : (more : List (Option Typ)) (codes : List Blamed) (rest : List CommandTree)
      → ShownFront (places_of (scope_of_entries entries) (Alone ∷ [])) 0 more codes next_is_too_large d
      → IsFirstTooLarge (places_in (done ++ c ∷ rest)) (length found + length more) d
  place_too_large more codes rest stopped =
      let here = statement_stopped (scope_behind done) (scope_of_entries entries) g entries d checked.lowest entries_lowest Stated Alone states_alike
      0 more codes next_is_too_large (next_wf done c) stopped in
      let whole = places_append done c rest in
      subst (λ ps. IsFirstTooLarge ps (length found + length more) d) (sym whole.1)
      (first_stopped (places_in done) (places_of (scope_behind done) (Stated ∷ [])) whole.0 found more blames codes d checked.shown here)

-- ---- at the end

pub checked_small : (commands : List CommandTree) (g : Context) (found : List (Option Typ)) (blames : List Blamed) (d : Dialect)
    → AreChecked commands g found blames d → IsSmall commands d
checked_small commands g found blames d checked = is_small commands found d checked.none_too_large checked.shown.least checked.shown.small

pub checked_faults : (commands : List CommandTree) (g : Context) (found : List (Option Typ)) (blames : List Blamed) (d : Dialect)
    → AreChecked commands g found blames d
    → AreTypeFaults commands (map written_fault (faults [] commands) ++ map (blame_fault commands) blames) d
checked_faults commands g found blames d checked = small blames (checked_small commands g found blames d checked) checked.shown.blamed
