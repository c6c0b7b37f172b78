-- The faults of one piece, explained, in its text.
use Rattle.std.proofs.Common.{◌≡◌, ℕ, ◌-◌, ◌<◌, ◌^◌, List, [], ◌∷◌, ◌++◌, length, get_or, map, take, Option, Some, None, refl, ap, sym, subst, ◌∙◌, arith}
use Rattle.std.specs.Option.{option_map}
use Rattle.std.proofs.lemmas.List.{length-map, length-append, take_at, take-map}
use Rattle.std.proofs.lemmas.List.Concat.{flat_map-append}
use Rattle.std.proofs.lemmas.Simd.{map-map}
use Rattle.lam_token.specs.declared.span.Span.{Span}
use Rattle.lam_rules.specs.Types.{Typ}
use Rattle.lam_rules.specs.declared.rules.Dialect.{Dialect}
use Rattle.lam_syntax.specs.Trees.{CommandTree}
use Rattle.lam_scope.specs.Names.{Name}
use Rattle.lam_scope.specs.Nameless.{written_in_command, faults_in}
use Rattle.lam_typing.specs.Answers.{answers}
use Rattle.lam_typing.specs.Blaming.{Blamed, AreBlamed}
use Rattle.lam_typing.specs.Checking.{types_in}
use Rattle.lam_typing.specs.Progress.{Shown}
use Rattle.lam_typing.specs.Typings.{found_of, blamed_in}
use Rattle.lam_typing.specs.Walk.{blames_of}
use Rattle.lam_typing.specs.declared.blame.Blame.{Blame}
use Rattle.lam_query.specs.declared.analyses.Analysis.{Analysis}
use Rattle.lam_query.specs.declared.answers.Fault.{Fault as RustFault}
use Rattle.lam_query.specs.declared.pieces.PieceAt.{PieceAt}
use Rattle.lam_query.specs.declared.rows.PlacedRow.{PlacedRow}
use Rattle.lam_query.specs.declared.rows.Row.{Row as RustRow}
use Rattle.lam_query.specs.declared.typings.Types.{Types}
use Rattle.lam_query.specs.Analyses.{IsAnalysisOf}
use Rattle.lam_query.specs.Commands.{AreCommandsOfText}
use Rattle.lam_query.specs.Faults.{Fault}
use Rattle.lam_query.specs.Mismatches.{ExplainedFault}
use Rattle.lam_query.specs.Sizes.{IsSizeFault, IsSmall, places_in}
use Rattle.lam_query.specs.TextFaults.{written_fault}
use Rattle.lam_query.specs.Views.{fault_of}
use Rattle.lam_query.specs.inner.Around.{IsPieceAround}
use Rattle.lam_query.specs.inner.Checked.{abbreviations_behind}
use Rattle.lam_query.specs.inner.Explained.{unexplained, AreAdded, AreToldOf}
use Rattle.lam_query.specs.inner.Kept.{Found, written_too_large, term_too_large, typed, FoundTypes, CommandRow, Row, row_of, rows_of, found_in, large_written_type, large_term, faults_found, first_in, first_large, all_types, all_faults, fault_after, placed, AllFit}
use Rattle.lam_query.specs.inner.Rows.{SeesAs, own_fault, AreTypesFound, IsFoundOf, IsKeptOf, IsSizedBy, AreAllTyped}
use Rattle.lam_query.specs.inner.StandIns.{stand_ins}
use Rattle.lam_query.specs.inner.Typings.{AreTypesOf}
use Rattle.lam_query.proofs.AnalysisAnswers.{sizes_hold}
use Rattle.lam_query.proofs.ExplainedByPiece.{none_added, blames_are, small_alone, are_added}
use Rattle.lam_query.proofs.FaultsPlaced.{fit_before, fit_behind, types_placed}
use Rattle.lam_query.proofs.InText.{IsInText}
use Rattle.lam_query.proofs.KnownRows.{known_through}
use Rattle.lam_query.proofs.PieceAround.{row_same}
use Rattle.lam_query.proofs.PieceInText.{piece_in_text}
use Rattle.lam_query.proofs.SpansInText.{all_types_fit}
use Rattle.lam_query.proofs.NoneLarge.{none_first, none_second, none_there, none_large_ahead}

-- ---- nothing is too large in front of a row

-- the types of its command are all there
all_there : (before : List Row) (r : Row) (after : List Row) (k : CommandRow) → first_large (before ++ r ∷ after) ≡ None → r.command ≡ Some k
    → (t : FoundTypes) × (k.found ≡ typed t)
all_there before r after k none has = by k.found refl
  where
    all : List Row
    all = before ++ r ∷ after

    found : found_in r ≡ Some k.found
    found = ap (option_map (λ k. k.found)) has

    no_type : large_written_type (Some k.found) ≡ None
    no_type =
        sym (ap large_written_type found) ∙ none_there large_written_type before r after (none_first (first_in large_written_type all) (first_in large_term all) none)

    no_term : large_term (Some k.found) ≡ None
    no_term = sym (ap large_term found) ∙ none_there large_term before r after (none_second (first_in large_written_type all) (first_in large_term all) none)

    by : (f : Found) → k.found ≡ f → (t : FoundTypes) × (k.found ≡ typed t)
    by (written_too_large s) is = let clash : Some s ≡ None = sym (ap (λ f. large_written_type (Some f)) is) ∙ no_type in absurd cc
    by (term_too_large s) is = let clash : Some s ≡ None = sym (ap (λ f. large_term (Some f)) is) ∙ no_term in absurd cc
    by (typed t) is = (t, is)

kept_none : (names types : Name → Option (Option Typ)) (own : List CommandTree) (ts : List Typ) (k : Option CommandRow) (d : Dialect) → own ≡ []
    → IsKeptOf names types own ts k d → k ≡ None
kept_none names types own ts None d none kept = refl
kept_none names types own ts (Some k) d none kept = absurd (subst (λ cs. IsKeptOf names types cs ts (Some k) d) none kept)

kept_one : (names types : Name → Option (Option Typ)) (own : List CommandTree) (c : CommandTree) (ts : List Typ) (k : Option CommandRow) (d : Dialect) → own ≡ c ∷ []
    → IsKeptOf names types own ts k d → (row : CommandRow) × (k ≡ Some row) × IsFoundOf names types c ts row.found d
kept_one names types own c ts None d one kept = absurd (subst (λ cs. IsKeptOf names types cs ts None d) one kept)
kept_one names types own c ts (Some k) d one kept = (k, refl, subst (λ cs. IsKeptOf names types cs ts (Some k) d) one kept)

-- ---- the piece

module _ (text : List ℕ) (a : Analysis) (o : ℕ) (p : PieceAt) (h : IsAnalysisOf text a) (here : IsPieceAround text o a p) (small : a.row_faults.large ≡ None) where
  abbrev Numbers : List Typ
  Numbers = types_in a.types

  none_large : first_large (here.around.before ++ here.around.row ∷ here.around.after) ≡ None
  none_large = ap first_large (sym here.around.are) ∙ sym h.large ∙ small

  known : AreAllTyped here.around.front here.around.before Numbers a.dialect
  known =
      known_through text here.around.before here.around.front Numbers a.dialect here.around.rows_before
      (none_large_ahead here.around.before (here.around.row ∷ here.around.after) none_large)

  -- its faults, as they are told
  module _ (r e : RustRow) (is : r ≡ get_or a.rows.items p.number e) (faults : List RustFault) (are : map fault_of faults ≡ faults_found (found_in (row_of r))) where
    faults_there : faults_found (found_in here.around.row) ≡ map (λ f. fault_after p.start (fault_of f)) faults
    faults_there =
        let place : PlacedRow = record { start = p.start; number = p.number } in
        ap (λ q. faults_found (found_in q)) (row_same text a o place here.around r e is)
        ∙ types_placed p.start (row_of r) ∙ ap (map (fault_after p.start)) (sym are) ∙ map-map (fault_after p.start) fault_of faults

    -- where there are none
    pub no_faults_added : (commands : List CommandTree) (old : List ExplainedFault) → faults ≡ [] → AreAdded commands (faults_found (found_in here.around.row)) old old a.dialect
    no_faults_added commands old none = none_added commands old _ a.dialect (faults_there ∙ ap (map (λ f. fault_after p.start (fault_of f))) none)

  -- a piece that is no command has none
  pub no_command_added : (commands : List CommandTree) (old : List ExplainedFault) → here.around.own ≡ [] → AreAdded commands (faults_found (found_in here.around.row)) old old a.dialect
  no_command_added commands old none =
      none_added commands old _ a.dialect
      (ap (λ k. faults_found (option_map (λ (r : CommandRow). r.found) k))
      (kept_none here.around.front.names here.around.front.types here.around.own Numbers here.around.row.command a.dialect none here.around.is_row.kept))

  -- a piece that is one
  module _ (c : CommandTree) (own : here.around.own ≡ c ∷ []) where
    kept : (row : CommandRow) × (here.around.row.command ≡ Some row) × IsFoundOf here.around.front.names here.around.front.types c Numbers row.found a.dialect
    kept = kept_one here.around.front.names here.around.front.types here.around.own c Numbers here.around.row.command a.dialect own here.around.is_row.kept

    types_there : (t : FoundTypes) × (kept.0.found ≡ typed t)
    types_there = all_there here.around.before here.around.row here.around.after kept.0 none_large kept.1

    abbrev Done : List CommandTree
    Done = here.around.front.commands

    abbrev Before : List (Option Typ)
    Before = answers Numbers (all_types here.around.before)

    front_sees : SeesAs c here.around.front.names here.around.front.types Done known.context
    front_sees = record { names = λ x there. known.names x; types = λ x there. known.types x }

    sees : SeesAs c here.sight.names here.sight.types Done known.context
    sees = record { names = λ x there. sym (here.names x) ∙ known.names x; types = λ x there. sym (here.types x) ∙ known.types x }

    more : AreTypesFound Done known.context Before known.blames c Numbers types_there.0 a.dialect
    more =
        let found : IsFoundOf here.around.front.names here.around.front.types c Numbers (typed types_there.0) a.dialect =
        subst (λ f. IsFoundOf here.around.front.names here.around.front.types c Numbers f a.dialect) types_there.1 kept.2 in
        found.found Done known.context Before known.blames known.checked front_sees

    row_faults : faults_found (found_in here.around.row) ≡ types_there.0.faults
    row_faults =
        ap (λ k. faults_found (option_map (λ (r : CommandRow). r.found) k)) kept.1 ∙ ap (λ f. faults_found (Some f)) types_there.1

    -- no type of the command alone is too large
    pub alone_is_small : (s : Span) → IsSizeFault (stand_ins here.sight c ++ c ∷ []) s a.dialect → ⊥
    alone_is_small s fault =
        small_alone Done known.context Before known.blames a.dialect known.checked here.sight c sees [] Numbers types_there.0 more s fault

    abbrev Alone : List CommandTree
    Alone = stand_ins here.sight c ++ c ∷ []

    module _ (commands : List CommandTree) (of_text : AreCommandsOfText text commands) where
      inside : IsInText here of_text.tokens commands
      inside = piece_in_text text o a p of_text.tokens commands h here of_text.are_tokens of_text.are_commands

      commands_are : commands ≡ Done ++ c ∷ inside.rest
      commands_are = inside.are ∙ ap (λ cs. Done ++ (cs ++ inside.rest)) own

      commands_small : IsSmall commands a.dialect
      commands_small =
          subst (λ large. IsSizedBy commands large a.dialect) small (sizes_hold text a of_text.tokens commands h of_text.are_tokens of_text.are_commands)

      module _ (r e : RustRow) (is : r ≡ get_or a.rows.items p.number e) (faults : List RustFault) (are : map fault_of faults ≡ faults_found (found_in (row_of r)))
          (types : Types) (typed_alone : AreTypesOf Alone types a.dialect) (blames : List Blame) (blamed : blames_of blames ≡ blamed_in types.typing)
          (number : ℕ) (numbered : number ≡ length faults - length blames) (short : length text < 2 ^ 64) where
        abbrev Codes : List Blamed
        Codes = blames_of blames

        shown : Shown (places_in Alone) 0 (found_of types.typing) Codes a.dialect
        shown = record {
          least = typed_alone.typed.least;
          small = typed_alone.typed.small;
          blamed = subst (λ bs. AreBlamed 0 (places_in Alone) bs a.dialect) (sym blamed) typed_alone.typed.blames;
        }

        same_codes : Codes ≡ more.own
        same_codes =
            blames_are Done known.context Before known.blames a.dialect known.checked here.sight c sees [] Numbers types_there.0 more (found_of types.typing) Codes shown

        abbrev Written : List Fault
        Written = map written_fault (faults_in (abbreviations_behind Done) (written_in_command c))

        abbrev Placed : List Fault
        Placed = map (λ f. fault_after p.start (fault_of f)) faults

        placed_are : Placed ≡ Written ++ map (own_fault c) more.own
        placed_are = sym (faults_there r e is faults are) ∙ row_faults ∙ more.faults

        blames_counted : (bs : List Blame) → length (blames_of bs) ≡ length bs
        blames_counted [] = refl
        blames_counted (b ∷ bs) = omega (arith, blames_counted bs)

        written_counted : length Written ≡ number
        written_counted = omega (
          arith,
          numbered,
          length-map faults (λ f. fault_after p.start (fault_of f)),
          ap length placed_are,
          length-append Written (map (own_fault c) more.own),
          length-map more.own (own_fault c),
          ap length same_codes,
          blames_counted blames,
        )

        written_are : map (λ f. fault_after p.start (fault_of f)) (take number faults) ≡ Written
        written_are =
            sym (take-map (λ f. fault_after p.start (fault_of f)) number faults) ∙ ap (take number) placed_are
            ∙ take_at Written (map (own_fault c) more.own) number written_counted

        pub written_fit : AllFit (map (λ f. fault_after p.start (fault_of f)) (take number faults))
        written_fit =
            let rows = here.around.before ++ here.around.row ∷ here.around.after in
            let all = all_types_fit text a short h (sym h.large ∙ small) in
            let parts : all_faults (placed 0 (rows_of a.rows.items)) ≡ all_faults here.around.before ++ (Placed ++ all_faults here.around.after) =
            ap all_faults here.around.are ∙ flat_map-append (λ q. faults_found (found_in q)) here.around.before (here.around.row ∷ here.around.after)
            ∙ ap (λ fs. all_faults here.around.before ++ (fs ++ all_faults here.around.after)) (faults_there r e is faults are) in
            let behind = fit_behind (all_faults here.around.before) (Placed ++ all_faults here.around.after) (subst AllFit parts all) in
            let own_fit = fit_before Placed (all_faults here.around.after) behind in
            subst AllFit (sym written_are) (fit_before Written (map (own_fault c) more.own) (subst AllFit placed_are own_fit))

        -- what was added is what is to be told of its faults
        pub piece_added : (old mid now told : List ExplainedFault)
            → mid ≡ old ++ map unexplained (map (λ f. fault_after p.start (fault_of f)) (take number faults))
            → now ≡ mid ++ told → AreToldOf Alone Codes told a.dialect
            → AreAdded commands (faults_found (found_in here.around.row)) old now a.dialect
        piece_added old mid now told first second of =
            let rest = inside.rest in
            let added = are_added Done known.context Before known.blames a.dialect known.checked here.sight c sees rest Numbers types_there.0 more
            (subst (λ cs. IsSmall cs a.dialect) commands_are commands_small) (found_of types.typing) Codes shown old now told
            (map (λ f. fault_after p.start (fault_of f)) (take number faults)) written_are (second ∙ ap (λ es. es ++ told) first) of in
            subst (λ fs. AreAdded commands fs old now a.dialect) (sym row_faults)
            (subst (λ cs. AreAdded cs types_there.0.faults old now a.dialect) (sym commands_are) added)
