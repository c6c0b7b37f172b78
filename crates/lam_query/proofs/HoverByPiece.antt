-- What is shown of an offset, from the rows of an analysis: its piece is read again.
use Rattle.std.proofs.Common.{◌≡◌, ℕ, ◌+◌, ◌<◌, ◌≤◌, true, false, get_or, List, [], ◌∷◌, ◌++◌, length, length-append, take, drop, slice_range, Option, Some, None, refl, sym, ap, subst, ◌∙◌, arith}
use Rattle.std.specs.Option.{option_map, option_or, is_some}
use Rattle.std.specs.Prelude.{IfSome}
use Rattle.std.specs.Str.{IsUtf8}
use Rattle.std.proofs.lemmas.Grind.{flat_map-append}
use Rattle.std.proofs.lemmas.List.{get_or_default, get_or-append-add, get_or_append_left, get_or-map, length-map, length-take-le, map-append}
use Rattle.std.proofs.lemmas.List.Quantifiers.{position-Some}
use Rattle.lam_token.specs.declared.span.Span.{Span}
use Rattle.lam_token.specs.Lexeme.{Lexeme}
use Rattle.lam_token.proofs.Cuts.{tokens_stand}
use Rattle.lam_rules.specs.Types.{Typ}
use Rattle.lam_rules.specs.declared.numbers.TyNo.{TyNo}
use Rattle.lam_rules.specs.declared.rules.Dialect.{Dialect}
use Rattle.lam_syntax.specs.Trees.{CommandTree}
use Rattle.lam_scope.specs.Numbered.{StandsIfAny}
use Rattle.lam_scope.specs.PlacedTerms.{term_of, command_terms, document_terms}
use Rattle.lam_scope.specs.Tables.{is_over, table, no_span, TextPlace, place_at, place_row_numbered}
use Rattle.lam_typing.specs.Answers.{answer, answers, AllStandIn}
use Rattle.lam_typing.specs.Checking.{types_in}
use Rattle.lam_typing.proofs.Growing.{stands_at}
use Rattle.lam_typing.proofs.Together.{least_length}
use Rattle.lam_query.specs.declared.analyses.Analysis.{Analysis}
use Rattle.lam_query.specs.declared.answers.Hover.{Hover}
use Rattle.lam_query.specs.declared.pieces.PieceAt.{PieceAt}
use Rattle.lam_query.specs.declared.rows.Row.{Row as RustRow}
use Rattle.lam_query.specs.Analyses.{IsAnalysisOf}
use Rattle.lam_query.specs.Commands.{AreCommandsOfText}
use Rattle.lam_query.specs.Hovers.{Shown, IsShownIn}
use Rattle.lam_query.specs.Sizes.{places_in}
use Rattle.lam_query.specs.Views.{shown_of}
use Rattle.lam_query.specs.Within.{IsSpanOfText}
use Rattle.lam_query.specs.inner.Around.{IsPieceAround}
use Rattle.lam_query.specs.inner.Checked.{abbreviations_behind, names_behind, scope_behind}
use Rattle.lam_query.specs.inner.Entered.{Lookup}
use Rattle.lam_query.specs.inner.OnePiece.{HaveNoSemicolon, IsOwnOf, IsOffsetIn, one_command, no_command, ArePieceTokens, IsShownInCommand, by_no_term, by_no_type, by_type, IsShownByPiece, by_no_command, by_command}
use Rattle.lam_query.specs.inner.Kept.{CommandRow, Found, written_too_large, term_too_large, typed, FoundTypes, Row, row_of, found_in, large_written_type, large_term, types_of_found, types_listed, types_found, first_in, first_large, all_types, found_types_after, found_after, row_after}
use Rattle.lam_query.specs.inner.Rows.{Front, nothing, front_with, IsKeptOf, IsRow, StandInFound, AreAllTyped, IsRowAround}
use Rattle.lam_query.proofs.Answering.{starts_stand}
use Rattle.lam_query.proofs.Checked.{checked_small}
use Rattle.lam_query.proofs.CheckedLists.{terms_push}
use Rattle.lam_query.proofs.FirstLarge.{found_placed}
use Rattle.lam_query.proofs.Hovering.{too_large_around}
use Rattle.lam_query.proofs.KnownRows.{known_through, size_told}
use Rattle.lam_query.proofs.RowsAndTerms.{innermost_number, span_told}
use Rattle.lam_query.proofs.RowLists.{rows_push}
use Rattle.lam_query.proofs.PieceAround.{own_same, rows_in, row_same}
use Rattle.lam_query.proofs.RowsInText.{AreInText, in_text}
use Rattle.lam_query.proofs.ShownByPiece.{shown_by_piece}
use Rattle.lam_query.proofs.SpelledRows.{spelled_through, whole_spelled}
use Rattle.lam_query.proofs.TermsAlone.{command_size}
use Rattle.lam_query.proofs.TextPlaces.{commands_stand}
use Rattle.lam_query.proofs.Within.{in_place}
use Rattle.lam_query.proofs.NoneLarge.{none_of_both, none_from}

-- ---- what is shown stands in the text

shown_stands : (text : List ℕ) (o : ℕ) (shown : Shown) (d : Dialect) → IsUtf8 text → IsShownIn text o (Some shown) d → IsSpanOfText text shown.span
shown_stands text o shown d is_text is =
    let cs = is.commands in
    let tokens = is.are_commands.tokens in
    let found = innermost_number cs o is.answer.0 is.answer.2.innermost in
    let there : (place_row_numbered (table cs) found.0).span ≡ shown.span =
    span_told cs found.0 ∙ ap (λ t. (term_of t).span) found.2 ∙ sym is.answer.4 in
    subst (IsSpanOfText text) there
    (in_place (IsSpanOfText text) cs (starts_stand text is_text)
    (commands_stand text tokens cs (tokens_stand text tokens is_text is.are_commands.are_tokens) is.are_commands.are_commands) found.0)

pub hover_stands : (text : List ℕ) (o : ℕ) (found : Option Hover) (d : Dialect) → IsUtf8 text → IsShownIn text o (option_map shown_of found) d
    → IfSome found (λ h. IsSpanOfText text h.span)
hover_stands text o None d is_text is = tt
hover_stands text o (Some h) d is_text is = shown_stands text o (shown_of h) d is_text is

-- ---- rows in which no type is too large

none_in_parts : (f : Option Found → Option Span) (front : List Row) (r : Row) (behind : List Row) → first_in f (front ++ r ∷ behind) ≡ None
    → (first_in f front ≡ None) × (f (found_in r) ≡ None)
none_in_parts f [] r behind none = (refl, (none_of_both (f (found_in r)) (first_in f behind) none).0)
none_in_parts f (s ∷ front) r behind none =
    let both = none_of_both (f (found_in s)) (first_in f (front ++ r ∷ behind)) none in
    let rest = none_in_parts f front r behind both.1 in
    (ap (λ x. option_or x (first_in f front)) both.0 ∙ rest.0, rest.1)

-- a row among others: no type in front of it is too large, and none of its own
record IsSmallAmong (front : List Row) (r : Row) : Type 0 where
  ahead : first_large front ≡ None
  written : large_written_type (found_in r) ≡ None
  term : large_term (found_in r) ≡ None

small_among : (front : List Row) (r : Row) (behind : List Row) → first_large (front ++ r ∷ behind) ≡ None → IsSmallAmong front r
small_among front r behind none =
    let both = none_of_both (first_in large_written_type (front ++ r ∷ behind)) (first_in large_term (front ++ r ∷ behind)) none in
    let written = none_in_parts large_written_type front r behind both.0 in
    let term = none_in_parts large_term front r behind both.1 in
    record { ahead = ap (λ x. option_or x (first_in large_term front)) written.0 ∙ term.0; written = written.1; term = term.1 }

none_pushed : (f : Option Found → Option Span) (front : List Row) (r : Row) → first_in f front ≡ None → f (found_in r) ≡ None → first_in f (front ++ r ∷ []) ≡ None
none_pushed f [] r none own = ap (λ x. option_or x None) own
none_pushed f (s ∷ front) r none own =
    let both = none_of_both (f (found_in s)) (first_in f front) none in
    ap (λ x. option_or x (first_in f (front ++ r ∷ []))) both.0 ∙ none_pushed f front r both.1 own

-- ---- what is kept of the command of a row

stand_of : (ts : List Typ) (found : Found) (t : FoundTypes) → StandInFound ts found → types_of_found (Some found) ≡ Some t → AllStandIn ts t.types
stand_of ts (written_too_large s) t stand is = absurd cc
stand_of ts (term_too_large s) t stand is = absurd cc
stand_of ts (typed u) t stand is = let same : u ≡ t = cc in subst (λ v. AllStandIn ts v.types) same stand.0

-- the numbers of its types stand in the table
kept_stand : (names types : Lookup) (own : List CommandTree) (ts : List Typ) (r : Option CommandRow) (d : Dialect) (t : FoundTypes)
    → IsKeptOf names types own ts r d → types_of_found (option_map (λ c. c.found) r) ≡ Some t → AllStandIn ts t.types
kept_stand names types [] ts None d t kept is = absurd cc
kept_stand names types [] ts (Some r) d t kept is = absurd kept
kept_stand names types (c ∷ []) ts None d t kept is = absurd kept
kept_stand names types (c ∷ []) ts (Some r) d t kept is = stand_of ts r.found t kept.stand is
kept_stand names types (c ∷ e ∷ own) ts None d t kept is = absurd kept
kept_stand names types (c ∷ e ∷ own) ts (Some r) d t kept is = absurd kept

some_type : (found : Found) → types_of_found (Some found) ≡ None → large_written_type (Some found) ≡ None → large_term (Some found) ≡ None → ⊥
some_type (written_too_large s) none written term = absurd cc
some_type (term_too_large s) none written term = absurd cc
some_type (typed t) none written term = absurd cc

-- a piece without types is no command, where none is too large
kept_none : (names types : Lookup) (own : List CommandTree) (ts : List Typ) (r : Option CommandRow) (d : Dialect)
    → IsKeptOf names types own ts r d → types_of_found (option_map (λ c. c.found) r) ≡ None
    → large_written_type (option_map (λ c. c.found) r) ≡ None → large_term (option_map (λ c. c.found) r) ≡ None → own ≡ []
kept_none names types [] ts r d kept none written term = refl
kept_none names types (c ∷ []) ts None d kept none written term = absurd kept
kept_none names types (c ∷ []) ts (Some r) d kept none written term = absurd (some_type r.found none written term)
kept_none names types (c ∷ e ∷ own) ts None d kept none written term = absurd kept
kept_none names types (c ∷ e ∷ own) ts (Some r) d kept none written term = absurd kept

-- ---- types by their numbers

-- there are as many as terms
typed_terms : (f : Front) (rows : List Row) (ts : List Typ) (d : Dialect) → AreAllTyped f rows ts d → length (all_types rows) ≡ length (document_terms f.commands)
typed_terms f rows ts d known =
    sym (length-map (all_types rows) (answer ts))
    ∙ sym (least_length (places_in f.commands) (answers ts (all_types rows)) d known.checked.shown.least)
    ∙ length-map (document_terms f.commands) _

types_joined : (front behind : List Row) → all_types (front ++ behind) ≡ all_types front ++ all_types behind
types_joined front behind = flat_map-append (λ r. types_found (found_in r)) front behind

-- those of a row among all
own_types : (ts : List Typ) (front : List Row) (r : Row) (behind : List Row) (n : ℕ) → n < length (types_found (found_in r))
    → get_or (answers ts (all_types (front ++ r ∷ behind))) (length (all_types front) + n) None ≡ get_or (answers ts (types_found (found_in r))) n None
own_types ts front r behind n lt =
    let own = types_found (found_in r) in
    let ahead = answers ts (all_types front) in
    let all : answers ts (all_types (front ++ r ∷ behind)) ≡ ahead ++ (answers ts own ++ answers ts (all_types behind)) =
    ap (answers ts) (types_joined front (r ∷ behind)) ∙ map-append (answer ts) (all_types front) (own ++ all_types behind)
    ∙ ap (λ os. ahead ++ os) (map-append (answer ts) own (all_types behind)) in
    ap (λ os. get_or os (length (all_types front) + n) None) all
    ∙ ap (λ k. get_or (ahead ++ (answers ts own ++ answers ts (all_types behind))) (k + n) None) (sym (length-map (all_types front) (answer ts)))
    ∙ get_or-append-add ahead (answers ts own ++ answers ts (all_types behind)) n None
    ∙ get_or_append_left (answers ts own) (answers ts (all_types behind)) None n (omega (arith, lt, length-map own (answer ts)))

-- any place, for look-ups that find one
no_place : TextPlace
no_place = record { span = no_span; derived = true; terms = []; inner = None }

place_inside : (c : CommandTree) (o n : ℕ) → place_at (table (c ∷ [])) o ≡ Some n → n < length (table (c ∷ [])).places
place_inside c o n at = (position-Some (is_over o) (table (c ∷ [])).places n no_place at).0

-- what a command shows by its own types it shows by all types, behind those in front
shown_among : (c : CommandTree) (before : ℕ) (own all : List (Option Typ)) (o : ℕ) (shown : Option Shown)
    → ((n : ℕ) → n < length (table (c ∷ [])).places → get_or all (before + n) None ≡ get_or own (0 + n) None)
    → IsShownInCommand c 0 own o shown → IsShownInCommand c before all o shown
shown_among c before own all o _ same (by_no_term none) = by_no_term none
shown_among c before own all o _ same (by_no_type {n = n} at none) = by_no_type at (same n (place_inside c o n at) ∙ none)
shown_among c before own all o _ same (by_type {n = n} at found text span) = by_type at (same n (place_inside c o n at) ∙ found) text span

-- ---- where some type is too large

commands_of : (text : List ℕ) (a : Analysis) → IsAnalysisOf text a → (there : AreInText text a) → AreCommandsOfText text there.front.commands
commands_of text a h there =
    let of = whole_spelled text (rows_in a) there.front (types_in a.types) a.dialect h.is_text there.rows there.whole in
    record { tokens = of.tokens; are_tokens = of.are_tokens; are_commands = of.are_commands }

pub large_shown : (text : List ℕ) (a : Analysis) (o : ℕ) → IsAnalysisOf text a → is_some a.row_faults.large ≡ true → IsShownIn text o None a.dialect
large_shown text a o h some = by a.row_faults.large refl some
  where
    by : (large : Option Span) → a.row_faults.large ≡ large → is_some large ≡ true → IsShownIn text o None a.dialect
    by None is large = absurd cc
    by (Some s) is large =
        let there = in_text text a h in
        record {
          commands = there.front.commands;
          are_commands = commands_of text a h there;
          answer = too_large_around there.front.commands s o a.dialect
              (size_told text (rows_in a) there.front (types_in a.types) a.dialect s there.rows (sym h.large ∙ is));
        }

-- ---- by the piece

-- types stay as they are where a row is placed

types_of_placed : (n : ℕ) (f : Option Found) → types_of_found (option_map (found_after n) f) ≡ option_map (found_types_after n) (types_of_found f)
types_of_placed n None = refl
types_of_placed n (Some (written_too_large s)) = refl
types_of_placed n (Some (term_too_large s)) = refl
types_of_placed n (Some (typed t)) = refl

types_placed : (n : ℕ) (r : Row) → types_of_found (found_in (row_after n r)) ≡ option_map (found_types_after n) (types_of_found (found_in r))
types_placed n r = ap types_of_found (found_placed n r.command) ∙ types_of_placed n (found_in r)

-- the row of the piece
module _ (text : List ℕ) (a : Analysis) (o : ℕ) (p : PieceAt) (h : IsAnalysisOf text a) (piece : IsPieceAround text o a p) where
  abbrev Numbers : List Typ
  Numbers = types_in a.types

  abbrev Rows : List Row
  Rows = rows_in a

  all : AreInText text a
  all = in_text text a h

  abbrev around : IsRowAround text o Rows (record { start = p.start; number = p.number }) Numbers a.dialect
  around = piece.around

  -- it is this one
  module _ (r e : RustRow) (is : r ≡ get_or a.rows.items p.number e) where
    abbrev There : Row
    There = row_after p.start (row_of r)

    same : around.row ≡ There
    same = row_same text a o (record { start = p.start; number = p.number }) around r e is

    are : Rows ≡ around.before ++ There ∷ around.after
    are = around.are ∙ ap (λ s. around.before ++ s ∷ around.after) same

    here : IsRow text around.front around.own There Numbers a.dialect
    here = subst (λ s. IsRow text around.front around.own s Numbers a.dialect) same around.is_row

    -- what its piece alone is read as
    abbrev ReadAs : List CommandTree → Type 0
    ReadAs own = (rest : List ℕ) (tokens : List Lexeme) → ArePieceTokens p.start p.text.now rest tokens → HaveNoSemicolon tokens → IsOwnOf tokens own

    read_own : (own : List CommandTree) → ReadAs own → IsOwnOf here.tokens own
    read_own own read = read (drop There.end text) here.tokens tokens_there here.piece.one_piece
      where
        letters : slice_range text around.front.end There.end ≡ p.text.now
        letters = ap (λ (s : Row). slice_range text around.front.end s.end) (sym same) ∙ sym piece.letters

        starts : length (take around.front.end text) ≡ p.start
        starts = length-take-le around.front.end text (omega (arith, here.forward, here.inside)) ∙ sym around.starts

        tokens_there : ArePieceTokens p.start p.text.now (drop There.end text) here.tokens
        tokens_there =
            subst (λ bytes. ArePieceTokens p.start bytes (drop There.end text) here.tokens) letters
            (subst (λ n. ArePieceTokens n (slice_range text around.front.end There.end) (drop There.end text) here.tokens) starts here.piece.are_own)

    -- no type is too large
    module _ (not_large : is_some a.row_faults.large ≡ false) where
      small : first_large Rows ≡ None
      small = sym h.large ∙ none_from a.row_faults.large not_large

      small_there : IsSmallAmong around.before There
      small_there = small_among around.before There around.after (ap first_large (sym are) ∙ small)

      known : AreAllTyped all.front Rows Numbers a.dialect
      known = known_through text Rows all.front Numbers a.dialect all.rows small

      ahead : AreAllTyped around.front around.before Numbers a.dialect
      ahead = known_through text around.before around.front Numbers a.dialect around.rows_before small_there.ahead

      commands_ahead : AreCommandsOfText (take around.front.end text) around.front.commands
      commands_ahead =
          let of = spelled_through text around.before around.front Numbers a.dialect h.is_text around.rows_before in
          record { tokens = of.tokens; are_tokens = of.are_tokens; are_commands = of.are_commands }

      shown : (s : Option Shown) → IsShownByPiece here.tokens (length (document_terms around.front.commands)) (answers Numbers (all_types Rows)) o s
          → IsShownIn text o s a.dialect
      shown s by_piece =
          shown_by_piece text (take around.front.end text) (slice_range text around.front.end There.end) (drop There.end text) here.tokens
          all.front.commands around.front.commands (answers Numbers (all_types Rows)) o s a.dialect here.piece (commands_of text a h all) commands_ahead
          (subst (λ (s : Row). IsOffsetIn o (take around.front.end text) (slice_range text around.front.end s.end) (drop s.end text)) same around.is_there)
          (checked_small all.front.commands known.context (answers Numbers (all_types Rows)) known.blames a.dialect known.checked)
          known.checked.shown.least by_piece

      no_own_shown : IsOwnOf here.tokens [] → IsShownIn text o None a.dialect
      no_own_shown (no_command none) = shown None (by_no_command none)

      -- the piece is no command
      pub no_command_shown : ReadAs [] → IsShownIn text o None a.dialect
      no_command_shown read = no_own_shown (read_own [] read)

      -- no types are kept
      pub no_types_shown : types_of_found (found_in (row_of r)) ≡ None → IsShownIn text o None a.dialect
      no_types_shown without =
          let no_own = kept_none around.front.names around.front.types around.own Numbers There.command a.dialect here.kept
          (types_placed p.start (row_of r) ∙ ap (option_map (found_types_after p.start)) without) small_there.written small_there.term in
          no_own_shown (subst (IsOwnOf here.tokens) no_own here.is_own)

      -- these are
      module _ (t : FoundTypes) (kept : types_of_found (found_in (row_of r)) ≡ Some t) where
        kept_there : types_of_found (found_in There) ≡ Some (found_types_after p.start t)
        kept_there = types_placed p.start (row_of r) ∙ ap (option_map (found_types_after p.start)) kept

        pub types_stand : AllStandIn Numbers t.types
        types_stand =
            kept_stand around.front.names around.front.types around.own Numbers There.command a.dialect (found_types_after p.start t) here.kept kept_there

        listed : types_found (found_in There) ≡ t.types
        listed = ap types_listed kept_there

        -- the piece is this command
        module _ (c : CommandTree) (read : ReadAs (c ∷ [])) where
          own : around.own ≡ c ∷ []
          own = own_same here.tokens around.own (c ∷ []) here.is_own (read_own (c ∷ []) read)

          abbrev Through : Front
          Through = front_with around.front (c ∷ []) Numbers There

          small_through : first_large (around.before ++ There ∷ []) ≡ None
          small_through =
              let both = none_of_both (first_in large_written_type around.before) (first_in large_term around.before) small_there.ahead in
              ap (λ x. option_or x (first_in large_term (around.before ++ There ∷ []))) (none_pushed large_written_type around.before There both.0 small_there.written)
              ∙ none_pushed large_term around.before There both.1 small_there.term

          through : AreAllTyped Through (around.before ++ There ∷ []) Numbers a.dialect
          through =
              known_through text (around.before ++ There ∷ []) Through Numbers a.dialect
              (rows_push text nothing around.before around.front (c ∷ []) There Numbers a.dialect around.rows_before
              (subst (λ cs. IsRow text around.front cs There Numbers a.dialect) own here))
              small_through

          -- it has as many terms as types
          as_many : length (table (c ∷ [])).places ≡ length t.types
          as_many =
              let bs = abbreviations_behind around.front.commands in
              let xs = names_behind around.front.commands in
              let s = scope_behind around.front.commands in
              omega (
                arith,
                typed_terms around.front around.before Numbers a.dialect ahead,
                typed_terms Through (around.before ++ There ∷ []) Numbers a.dialect through,
                ap length (types_joined around.before (There ∷ [])),
                length-append (all_types around.before) (all_types (There ∷ [])),
                ap (λ os. length (os ++ [])) listed,
                length-append t.types [],
                ap length (terms_push around.front.commands c),
                length-append (document_terms around.front.commands) (command_terms bs xs s c),
                command_size bs xs s c,
              )

          pub types_inside : length (table (c ∷ [])).places ≤ length t.types
          types_inside = omega (arith, as_many)

          same_types : (n : ℕ) → n < length (table (c ∷ [])).places
              → get_or (answers Numbers (all_types Rows)) (length (document_terms around.front.commands) + n) None
              ≡ get_or (answers Numbers t.types) (0 + n) None
          same_types n lt =
              ap (λ rs. get_or (answers Numbers (all_types rs)) (length (document_terms around.front.commands) + n) None) are
              ∙ ap (λ k. get_or (answers Numbers (all_types (around.before ++ There ∷ around.after))) (k + n) None)
              (sym (typed_terms around.front around.before Numbers a.dialect ahead))
              ∙ own_types Numbers around.before There around.after n (omega (arith, lt, as_many, ap length listed))
              ∙ ap (λ os. get_or (answers Numbers os) n None) listed ∙ ap (λ k. get_or (answers Numbers t.types) k None) (omega arith)

          pub command_shown : (s : Option Shown) → IsShownInCommand c 0 (answers Numbers t.types) o s → IsShownIn text o s a.dialect
          command_shown s in_command = by (read_own (c ∷ []) read)
            where
              among : IsShownInCommand c (length (document_terms around.front.commands)) (answers Numbers (all_types Rows)) o s
              among =
                  shown_among c (length (document_terms around.front.commands)) (answers Numbers t.types) (answers Numbers (all_types Rows)) o s
                  same_types in_command

              by : IsOwnOf here.tokens (c ∷ []) → IsShownIn text o s a.dialect
              by (one_command is_command) = shown s (by_command is_command among)

-- ---- in a command

-- the type that was found of the term at a byte, and that its number stands for one
module _ (ts : List Typ) (types : List (Option TyNo)) (c : CommandTree) (o n : ℕ) (number e : Option TyNo) (stand : AllStandIn ts types)
    (inside : length (table (c ∷ [])).places ≤ length types) (at : place_at (table (c ∷ [])) o ≡ Some n) (is : get_or types n e ≡ number) where
  within : n < length types
  within = omega (arith, inside, place_inside c o n at)

  there : number ≡ get_or types n number
  there = sym is ∙ get_or_default types n e number within

  pub number_stands : StandsIfAny ts number
  number_stands = stands_at ts types n number within there stand

  pub found_there : get_or (answers ts types) (0 + n) None ≡ answer ts number
  found_there =
      ap (λ k. get_or (answers ts types) k None) (omega arith) ∙ get_or-map (answer ts) types n number None within ∙ ap (answer ts) (sym there)
