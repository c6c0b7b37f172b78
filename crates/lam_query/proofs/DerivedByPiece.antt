-- What is derived for an offset of a text, from the command of the piece there, which is typed behind its stand-ins.
use Rattle.std.proofs.Common.{◌≡◌, ℕ, ◌+◌, ◌<◌, ◌^◌, List, [], ◌∷◌, ◌++◌, length, map, reverse, take, drop, slice_range, get_or, Option, Some, None, refl, sym, ap, subst, ◌∙◌, arith}
use Rattle.std.proofs.lemmas.List.{length-take-le}
use Rattle.lam_token.specs.Lexeme.{Lexeme}
use Rattle.lam_token.specs.declared.span.Span.{Span}
use Rattle.lam_token.proofs.Cuts.{tokens_stand}
use Rattle.lam_rules.specs.Types.{Typ}
use Rattle.lam_rules.specs.Typing.{Context, TypingTree}
use Rattle.lam_syntax.specs.Trees.{CommandTree}
use Rattle.lam_scope.specs.FreeNames.{each_once, free_in_command}
use Rattle.lam_scope.specs.Names.{Name}
use Rattle.lam_scope.specs.PlacedTerms.{term_of, command_terms, document_terms, tree_in}
use Rattle.lam_scope.specs.Tables.{table, place_at, place_row_numbered, binder_numbered, visible_at}
use Rattle.lam_scope.specs.Views.{statements_of}
use Rattle.lam_scope.specs.declared.resolved.Resolved.{Resolved}
use Rattle.lam_typing.specs.Answers.{answers}
use Rattle.lam_typing.specs.Checking.{types_in}
use Rattle.lam_typing.specs.LeastTypes.{IsLeastAt}
use Rattle.lam_typing.specs.Typings.{types_of as types_of_typing, found_of, entries_in, IsProofAt}
use Rattle.lam_typing.specs.Blaming.{Blamed}
use Rattle.lam_typing.specs.declared.typing.Typing.{Typing}
use Rattle.lam_typing.proofs.LeastContexts.{place_wf}
use Rattle.lam_typing.proofs.PlaceProofs.{entries_lowest}
use Rattle.lam_query.specs.declared.analyses.Analysis.{Analysis}
use Rattle.lam_query.specs.declared.binders.SeenBinder.{SeenBinder}
use Rattle.lam_query.specs.declared.pieces.PieceAt.{PieceAt}
use Rattle.lam_query.specs.Analyses.{IsAnalysisOf}
use Rattle.lam_query.specs.Commands.{AreCommandsOfText}
use Rattle.lam_query.specs.Derivations.{Derivation, IsDerivation, IsDerivedIn}
use Rattle.lam_query.specs.Hovers.{IsHover, IsShownIn}
use Rattle.lam_query.specs.Sizes.{IsSmall, IsSizeFault}
use Rattle.lam_query.specs.Steps.{steps_of, typing_proof}
use Rattle.lam_query.specs.Within.{IsSpanOfText}
use Rattle.lam_query.specs.inner.Around.{IsPieceAround}
use Rattle.lam_query.specs.inner.Checked.{abbreviations_behind, names_behind, scope_behind, AreChecked}
use Rattle.lam_query.specs.inner.Contexts.{entry_shown}
use Rattle.lam_query.specs.inner.Entered.{entered, entries_onto}
use Rattle.lam_query.specs.inner.Kept.{Row, rows_of, placed, first_large, all_types}
use Rattle.lam_query.specs.inner.OnePiece.{HaveNoSemicolon, IsOwnOf, ArePieceTokens}
use Rattle.lam_query.specs.inner.Rows.{Front, AreAllTyped, entries_of, types_of}
use Rattle.lam_query.specs.inner.SeenBinders.{name_seen, entries_seen, AreBindersBehind, AreEntriesBehind}
use Rattle.lam_query.specs.inner.StandIns.{stand_ins}
use Rattle.lam_query.specs.inner.Typings.{AreFoundOf}
use Rattle.lam_query.proofs.AloneInText.{AreTermsAlike, no_term_there, no_type_there, term_alone, term_there}
use Rattle.lam_query.proofs.Answering.{starts_stand}
use Rattle.lam_query.proofs.Checked.{checked_small}
use Rattle.lam_query.proofs.CheckedLists.{terms_push}
use Rattle.lam_query.proofs.DerivedInText.{least_alone, derivation_there}
use Rattle.lam_query.proofs.Hovering.{nothing_around}
use Rattle.lam_query.proofs.KnownRows.{known_through}
use Rattle.lam_query.proofs.PieceAround.{own_same}
use Rattle.lam_query.proofs.PieceInDocument.{none_between}
use Rattle.lam_query.proofs.PieceOfText.{commands_of_piece}
use Rattle.lam_query.proofs.RowPieces.{part_ends}
use Rattle.lam_query.proofs.RowsAndTerms.{span_told}
use Rattle.lam_query.proofs.RowsInText.{AreInText, in_text}
use Rattle.lam_query.proofs.SameTerms.{same_terms, least_same, proof_same}
use Rattle.lam_query.proofs.SeenAlike.{IsSeenAlike}
use Rattle.lam_query.proofs.SizesAlone.{small_alone}
use Rattle.lam_query.proofs.SpelledRows.{spelled_through, whole_spelled}
use Rattle.lam_query.proofs.StandInsSeen.{stand_ins_seen, stand_ins_count}
use Rattle.lam_query.proofs.TermsAlone.{command_row}
use Rattle.lam_query.proofs.TextPlaces.{commands_stand}
use Rattle.lam_query.proofs.TreePlaces.{InCommand, InCommands}
use Rattle.lam_query.proofs.Within.{in_place}
use Rattle.lam_query.proofs.NoneLarge.{none_large_ahead}

-- where nothing is shown, nothing is derived
pub derived_nothing : (text : List ℕ) (o : ℕ) (d : _) → IsShownIn text o None d → IsDerivedIn text o None d
derived_nothing text o d h = record { commands = h.commands; are_commands = h.are_commands; answer = h.answer }

-- ---- the places in one of several commands

in_own : (Q : Span → Type 0) (done : List CommandTree) (c : CommandTree) (rest : List CommandTree) → InCommands Q (done ++ c ∷ rest) → InCommand Q c
in_own Q [] c rest there = there.0
in_own Q (b ∷ done) c rest there = in_own Q done c rest there.1

-- behind commands without terms its rows are those that it has by itself
own_row : (pre : List CommandTree) (c : CommandTree) (n : ℕ) → document_terms pre ≡ []
    → (place_row_numbered (table (pre ++ c ∷ [])) n).span ≡ (place_row_numbered (table (c ∷ [])) n).span
own_row pre c n none =
    let bs = abbreviations_behind pre in
    let xs = names_behind pre in
    let s = scope_behind pre in
    span_told (pre ++ c ∷ []) n
    ∙ ap (λ ts. (term_of (tree_in ts n)).span) (terms_push pre c ∙ ap (λ ts. ts ++ command_terms bs xs s c) none)
    ∙ sym (command_row bs xs s c n)

module _ (text : List ℕ) (o : ℕ) (a : Analysis) (p : PieceAt) (h : IsAnalysisOf text a) (here : IsPieceAround text o a p) where
  abbrev Numbers : List Typ
  Numbers = types_in a.types

  abbrev Rows : List Row
  Rows = placed 0 (rows_of a.rows.items)

  abbrev Ahead : Front
  Ahead = here.around.front

  all : AreInText text a
  all = in_text text a h

  commands_all : AreCommandsOfText text all.front.commands
  commands_all =
      let of = whole_spelled text Rows all.front Numbers a.dialect h.is_text all.rows all.whole in
      record { tokens = of.tokens; are_tokens = of.are_tokens; are_commands = of.are_commands }

  commands_ahead : AreCommandsOfText (take Ahead.end text) Ahead.commands
  commands_ahead =
      let of = spelled_through text here.around.before Ahead Numbers a.dialect h.is_text here.around.rows_before in
      record { tokens = of.tokens; are_tokens = of.are_tokens; are_commands = of.are_commands }

  -- ---- the bytes of the piece

  begins : length (take Ahead.end text) ≡ p.start
  begins =
      omega (
        arith,
        here.around.starts,
        here.around.is_row.forward,
        here.around.is_row.inside,
        length-take-le Ahead.end text (omega (arith, here.around.is_row.forward, here.around.is_row.inside)),
      )

  pub bytes_fit : length text < 2 ^ 64 → p.start + length p.text.now < 2 ^ 64
  bytes_fit short =
      omega (
        arith,
        short,
        begins,
        here.around.is_row.inside,
        ap length here.letters,
        part_ends text Ahead.end here.around.row.end here.around.is_row.forward here.around.is_row.inside,
      )

  -- ---- its command

  -- what the piece is read as
  pub own_read : (own : List CommandTree)
      → ((rest : List ℕ) (tokens : List Lexeme) → ArePieceTokens p.start p.text.now rest tokens → HaveNoSemicolon tokens → IsOwnOf tokens own) → here.around.own ≡ own
  own_read own read =
      let tokens = here.around.is_row.tokens in
      let rest = drop here.around.row.end text in
      let there : ArePieceTokens p.start p.text.now rest tokens =
      subst (λ n. ArePieceTokens n p.text.now rest tokens) begins
      (subst (λ bytes. ArePieceTokens (length (take Ahead.end text)) bytes rest tokens) (sym here.letters) here.around.is_row.piece.are_own) in
      own_same tokens here.around.own own here.around.is_row.is_own (read rest tokens there here.around.is_row.piece.one_piece)

  -- the commands before and after it have no term at the offset
  among : (own : List CommandTree) → here.around.own ≡ own
      → (after : List CommandTree) × (all.front.commands ≡ Ahead.commands ++ (own ++ after)) × (place_at (table Ahead.commands) o ≡ None) × (place_at (table after) o ≡ None)
  among own is =
      commands_of_piece text (take Ahead.end text) (slice_range text Ahead.end here.around.row.end) (drop here.around.row.end text) here.around.is_row.tokens
      all.front.commands Ahead.commands own o here.around.is_row.piece commands_all commands_ahead
      (subst (IsOwnOf here.around.is_row.tokens) is here.around.is_row.is_own) here.around.is_there

  pub no_command_derived : here.around.own ≡ [] → IsDerivedIn text o None a.dialect
  no_command_derived is =
      let whole = among [] is in
      record {
        commands = all.front.commands;
        are_commands = commands_all;
        answer = subst (λ cs. IsHover cs o None a.dialect) (sym whole.1)
            (nothing_around (Ahead.commands ++ whole.0) o a.dialect (none_between Ahead.commands o whole.2 whole.0 whole.3));
      }

  module _ (c : CommandTree) (is_own : here.around.own ≡ c ∷ []) (small : a.row_faults.large ≡ None) where
    abbrev Rest : List CommandTree
    Rest = (among (c ∷ []) is_own).0

    abbrev Whole : List CommandTree
    Whole = Ahead.commands ++ c ∷ Rest

    are_whole : all.front.commands ≡ Whole
    are_whole = (among (c ∷ []) is_own).1

    none_before : place_at (table Ahead.commands) o ≡ None
    none_before = (among (c ∷ []) is_own).2

    none_after : place_at (table Rest) o ≡ None
    none_after = (among (c ∷ []) is_own).3

    commands_whole : AreCommandsOfText text Whole
    commands_whole = subst (AreCommandsOfText text) are_whole commands_all

    derived_in : (found : Option Derivation) → IsDerivation Whole o found a.dialect → IsDerivedIn text o found a.dialect
    derived_in found answer = record { commands = Whole; are_commands = commands_whole; answer = answer }

    -- none of the types of the text is too large

    none_large : first_large Rows ≡ None
    none_large = sym h.large ∙ small

    known : AreAllTyped all.front Rows Numbers a.dialect
    known = known_through text Rows all.front Numbers a.dialect all.rows none_large

    small_whole : IsSmall Whole a.dialect
    small_whole =
        subst (λ cs. IsSmall cs a.dialect) are_whole
        (checked_small all.front.commands known.context (answers Numbers (all_types Rows)) known.blames a.dialect known.checked)

    ahead : AreAllTyped Ahead here.around.before Numbers a.dialect
    ahead =
        known_through text here.around.before Ahead Numbers a.dialect here.around.rows_before
        (none_large_ahead here.around.before (here.around.row ∷ here.around.after) (ap first_large (sym here.around.are) ∙ none_large))

    -- ---- behind its stand-ins

    abbrev Pre : List CommandTree
    Pre = stand_ins here.sight c

    abbrev Declared : Context
    Declared = entries_onto [] (entered here.sight.names (each_once (free_in_command c)))

    abbrev Alone : List CommandTree
    Alone = Pre ++ c ∷ []

    alike : (g : Context) (found : List (Option Typ)) (blames : List Blamed) → AreChecked Ahead.commands g found blames a.dialect
        → ((x : Name) → Ahead.names x ≡ entries_of Ahead.commands g x) → ((x : Name) → Ahead.types x ≡ types_of (abbreviations_behind Ahead.commands) x)
        → IsSeenAlike Ahead.commands Pre g Declared c a.dialect
    alike g found blames checked names types =
        stand_ins_seen here.sight c Ahead.commands g found blames a.dialect checked (record {
          names = λ x in_it. sym (here.names x) ∙ names x;
          types = λ x in_it. sym (here.types x) ∙ types x;
        })

    alike_ahead : IsSeenAlike Ahead.commands Pre ahead.context Declared c a.dialect
    alike_ahead = alike ahead.context (answers Numbers (all_types here.around.before)) ahead.blames ahead.checked ahead.names ahead.types

    told : (g : Context) → IsSeenAlike Ahead.commands Pre g Declared c a.dialect → AreTermsAlike Ahead.commands Pre g Declared c Rest a.dialect
    told g seen = record {
      same = λ n lt. same_terms Ahead.commands Pre g Declared c Rest a.dialect seen n lt;
      least = λ n lt found least.
          least_same Ahead.commands Pre g Declared (term_there Ahead.commands c Rest n) (term_alone Pre c n) found a.dialect
          (same_terms Ahead.commands Pre g Declared c Rest a.dialect seen n lt) least;
      proof = λ n lt e tree many least proof.
          let same = same_terms Ahead.commands Pre g Declared c Rest a.dialect seen n lt in
          let m = length (document_terms Ahead.commands) + n in
          let low = entries_lowest (term_of (term_there Ahead.commands c Rest n)).place.scope (e ++ g) a.dialect (place_wf Whole m).0 (same.least e many least) in
          proof_same Ahead.commands Pre g Declared (term_there Ahead.commands c Rest n) (term_alone Pre c n) tree a.dialect same e many low.wf proof;
    }

    -- ---- what is derived

    pub size_alone : (s : Span) → IsSizeFault Alone s a.dialect → ⊥
    size_alone = small_alone Ahead.commands Pre ahead.context Declared c Rest a.dialect alike_ahead small_whole

    pub nowhere_derived : place_at (table Alone) o ≡ None → IsDerivedIn text o None a.dialect
    nowhere_derived at =
        derived_in None
        (no_term_there Ahead.commands Pre ahead.context Declared c Rest a.dialect alike_ahead (told ahead.context alike_ahead) o none_before none_after at)

    -- the types of its terms
    module _ (resolved : Resolved) (typing : Typing) (found : AreFoundOf Alone resolved typing a.dialect) (n : ℕ) (at : place_at (table Alone) o ≡ Some n) where
      pub untyped_derived : get_or (found_of typing) n None ≡ None → IsDerivedIn text o None a.dialect
      untyped_derived none =
          let like = told ahead.context alike_ahead in
          derived_in None
          (no_type_there Ahead.commands Pre ahead.context Declared c Rest a.dialect alike_ahead like o none_before none_after n at
          (subst (λ t. IsLeastAt (term_of (term_alone Pre c n)).place.scope (term_of (term_alone Pre c n)).place.here t a.dialect) none
          (least_alone Ahead.commands Pre ahead.context Declared c Rest a.dialect alike_ahead like resolved typing found o n at)))

      pub typed_derived : (tree : TypingTree) → IsProofAt (statements_of resolved) typing n tree → (outer inner : List SeenBinder) (count : ℕ)
          → count ≡ length (entered here.sight.names (each_once (free_in_command c)))
          → AreBindersBehind Ahead outer → AreEntriesBehind Ahead outer Numbers a.dialect
          → map name_seen inner ≡ map (λ b. (binder_numbered (table Alone) b).name) (drop count (visible_at (table Alone) n))
          → entries_seen (types_of_typing typing) inner ≡ map (λ b. get_or (entries_in typing) b None) (drop count (visible_at (table Alone) n))
          → (derived : Derivation) → derived.context ≡ map (entry_shown Numbers) outer ++ map (entry_shown (types_of_typing typing)) inner
          → derived.steps ≡ steps_of 0 (typing_proof (tree_in (document_terms Alone) n) tree) → IsDerivedIn text o (Some derived) a.dialect
      typed_derived tree proof outer inner count counted behind entries names_inside entries_inside derived context steps =
          let g = reverse (entries_seen Numbers outer) in
          let seen = alike g entries.found entries.blames entries.checked entries.names entries.types in
          derived_in (Some derived)
          (derivation_there Ahead.commands Pre g Declared c Rest a.dialect seen (told g seen) resolved typing found o n at tree proof
          outer inner Numbers count (counted ∙ sym (stand_ins_count here.sight c)) behind refl names_inside entries_inside
          none_before none_after small_whole derived context steps)

    -- its rows stand in the text
    pub row_stands : (n : ℕ) → IsSpanOfText text (place_row_numbered (table Alone) n).span
    row_stands n =
        let tokens = commands_whole.tokens in
        let stand = commands_stand text tokens Whole (tokens_stand text tokens h.is_text commands_whole.are_tokens) commands_whole.are_commands in
        subst (IsSpanOfText text) (sym (own_row Pre c n alike_ahead.no_terms))
        (in_place (IsSpanOfText text) (c ∷ []) (starts_stand text h.is_text) (in_own (IsSpanOfText text) Ahead.commands c Rest stand, tt) n)
