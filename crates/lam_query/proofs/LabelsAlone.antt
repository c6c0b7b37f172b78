-- What is listed behind a dot, by the command of the piece alone.
use Rattle.std.proofs.Common.{◌≡◌, ℕ, ◌+◌, ◌<◌, arith, true, cond, List, [], ◌∷◌, ◌++◌, append_assoc, length, map, refl, ap, sym, subst, ◌∙◌, Option, Some, None, Bool}
use Rattle.std.specs.List.{AllByRecursion, position, position_from}
use Rattle.std.specs.Option.{is_some}
use Rattle.std.proofs.lemmas.Iterator.Adapters.{position_from-zero}
use Rattle.std.proofs.lemmas.List.Elements.{recursion_from_All}
use Rattle.std.proofs.lemmas.List.Quantifiers.{position-Some}
use Rattle.lam_token.specs.declared.span.Span.{Span}
use Rattle.lam_rules.specs.Typing.{Context}
use Rattle.lam_syntax.specs.Trees as tree
use Rattle.lam_syntax.specs.Trees.{word, CommandTree, definition, declaration, evaluation}
use Rattle.lam_scope.specs.Expansions.{Abbreviation}
use Rattle.lam_scope.specs.FreeNames.{each_once, free_in_command}
use Rattle.lam_scope.specs.Nameless.{abbreviations_after, written_in_command, first_over_limit, first_too_large}
use Rattle.lam_scope.specs.PlacedTerms.{PlacedTree, placed, term_of, commands_terms, document_terms, tree_in, is_projection_at, projection_at}
use Rattle.lam_typing.specs.Answers.{answers}
use Rattle.lam_typing.specs.Checking.{types_in}
use Rattle.lam_query.specs.declared.analyses.Analysis.{Analysis}
use Rattle.lam_query.specs.declared.pieces.PieceAt.{PieceAt}
use Rattle.lam_query.specs.Analyses.{IsAnalysisOf}
use Rattle.lam_query.specs.Commands.{AreCommandsOfText}
use Rattle.lam_query.specs.Completions.{Item}
use Rattle.lam_query.specs.Sizes.{IsSmall}
use Rattle.lam_query.specs.inner.Around.{IsPieceAround}
use Rattle.lam_query.specs.inner.Checked.{abbreviations_behind, names_behind, scope_behind}
use Rattle.lam_query.specs.inner.Entered.{type_name_bound, entered, entries_onto}
use Rattle.lam_query.specs.inner.Kept.{first_large, all_types}
use Rattle.lam_query.specs.inner.Listed.{AreListed, small, large, IsListedBehind}
use Rattle.lam_query.specs.inner.PieceRows.{Sight}
use Rattle.lam_query.specs.inner.Rows.{SeesAs, IsSizedBy, AreAllTyped}
use Rattle.lam_query.specs.inner.StandIns.{stand_ins}
use Rattle.lam_query.proofs.AlikeLabels.{listed_there, projection_there}
use Rattle.lam_query.proofs.AnalysisAnswers.{sizes_hold}
use Rattle.lam_query.proofs.AskedTerms.{label_told}
use Rattle.lam_query.proofs.CheckedLists.{terms_append, too_large_append}
use Rattle.lam_query.proofs.KnownRows.{known_through}
use Rattle.lam_query.proofs.SeenAlike.{IsSeenAlike}
use Rattle.lam_query.proofs.StandInsSeen.{stand_ins_seen, stand_ins_terms}
use Rattle.lam_query.proofs.TermsAlone.{bare, commands_alone}
use Rattle.lam_query.proofs.NoneLarge.{none_second, none_large_ahead}
use Rattle.lam_query.proofs.SizesAlone.{no_written}

-- ---- the projection at a byte, in a command and behind its stand-ins

abbrev asks_at : ℕ → PlacedTree → Bool
asks_at o t = is_projection_at o (term_of t).own

bare_asks : (o : ℕ) (t : PlacedTree) → asks_at o (bare t) ≡ asks_at o t
bare_asks o (placed t ps) = refl

bare_from : (o n : ℕ) (ts : List PlacedTree) → position_from (asks_at o) n (map bare ts) ≡ position_from (asks_at o) n ts
bare_from o n [] = refl
bare_from o n (t ∷ ts) =
    let here = bare_asks o t in
    let rest = bare_from o (n + 1) ts in
    λ i. cond (here i) (Some n) (rest i)

bare_position : (o : ℕ) (ts : List PlacedTree) → position (asks_at o) (map bare ts) ≡ position (asks_at o) ts
bare_position o ts = position_from-zero (asks_at o) (map bare ts) ∙ bare_from o 0 ts ∙ sym (position_from-zero (asks_at o) ts)

-- it has the same number
pub projection_alone : (o : ℕ) (s : Sight) (c : CommandTree) → projection_at o (stand_ins s c ++ c ∷ []) ≡ projection_at o (c ∷ [])
projection_alone o s c =
    let pre = stand_ins s c in
    let there = commands_terms (abbreviations_behind pre) (names_behind pre) (scope_behind pre) (c ∷ []) in
    ap (position (asks_at o)) (terms_append pre (c ∷ []) ∙ ap (λ ts. ts ++ there) (stand_ins_terms s c))
    ∙ sym (bare_position o there)
    ∙ ap (position (asks_at o)) (commands_alone (abbreviations_behind pre) [] (names_behind pre) [] (scope_behind pre) [] (c ∷ []))
    ∙ bare_position o (document_terms (c ∷ []))

-- ---- commands that bind no type name

after_none : (bs : List Abbreviation) (c : CommandTree) → type_name_bound c ≡ None → abbreviations_after bs c ≡ bs
after_none bs (definition w t) none = refl
after_none bs (declaration w u) none = refl
after_none bs (tree.abbreviation (word x s) u) none = absurd cc
after_none bs (evaluation t) none = refl

-- a command that has a term is one of these
term_none : (c : CommandTree) (n : ℕ) → n < length (document_terms (c ∷ [])) → type_name_bound c ≡ None
term_none (definition (word x s) t) n lt = refl
term_none (declaration (word x s) u) n lt = refl
term_none (tree.abbreviation w u) n lt = absurd (omega arith)
term_none (evaluation t) n lt = refl

-- the written types behind them
behind_own : (bs : List Abbreviation) (own behind : List CommandTree) → AllByRecursion (λ c. type_name_bound c ≡ None) own → first_too_large bs (own ++ behind) ≡ None
    → first_too_large bs behind ≡ None
behind_own bs [] behind h none = none
behind_own bs (c ∷ cs) behind h none =
    behind_own bs cs behind h.1
    (ap (λ types. first_too_large types (cs ++ behind)) (sym (after_none bs c h.0)) ∙ none_second (first_over_limit bs (written_in_command c)) (first_too_large (abbreviations_after bs c) (cs ++ behind)) none)

-- ---- what is listed

pub some_large : (o : Option Span) → is_some o ≡ true → (s : Span) × (o ≡ Some s)
some_large None is = absurd cc
some_large (Some s) is = (s, refl)

module _ (text : List ℕ) (offset : ℕ) (a : Analysis) (p : PieceAt) (of : IsAnalysisOf text a) (here : IsPieceAround text offset a p) (c : CommandTree) where
  abbrev Done : List CommandTree
  Done = here.around.front.commands

  abbrev Alone : List CommandTree
  Alone = stand_ins here.sight c ++ c ∷ []

  sized : (whole : List CommandTree) → AreCommandsOfText text whole → IsSizedBy whole a.row_faults.large a.dialect
  sized whole are = sizes_hold text a are.tokens whole of are.are_tokens are.are_commands

  -- where some type of the text is too large
  pub large_behind : (dot n : ℕ) (s : Span) → a.row_faults.large ≡ Some s → projection_at dot Alone ≡ Some n → IsListedBehind here dot c []
  large_behind dot n s is there = record {
    number = n;
    there = sym (projection_alone dot here.sight c) ∙ there;
    listed = λ whole behind are same none. large s (subst (λ o. IsSizedBy whole o a.dialect) is (sized whole are));
  }

  module _ (none_large : a.row_faults.large ≡ None) where
    -- what is known in front of the piece
    known : AreAllTyped here.around.front here.around.before (types_in a.types) a.dialect
    known =
        known_through text here.around.before here.around.front (types_in a.types) a.dialect here.around.rows_before
        (none_large_ahead here.around.before (here.around.row ∷ here.around.after) (sym (ap first_large here.around.are) ∙ sym of.large ∙ none_large))

    abbrev Before : Context
    Before = known.context

    sees : SeesAs c here.sight.names here.sight.types Done Before
    sees = record { names = λ x free. sym (here.names x) ∙ known.names x; types = λ x free. sym (here.types x) ∙ known.types x }

    abbrev Entries : Context
    Entries = entries_onto [] (entered here.sight.names (each_once (free_in_command c)))

    alike : IsSeenAlike Done (stand_ins here.sight c) Before Entries c a.dialect
    alike = stand_ins_seen here.sight c Done Before (answers (types_in a.types) (all_types here.around.before)) known.blames a.dialect known.checked sees

    pub small_behind : (dot n : ℕ) (items : List Item) → projection_at dot Alone ≡ Some n → AreListed Alone n items a.dialect → IsListedBehind here dot c items
    small_behind dot n items there listed =
        let pre = stand_ins here.sight c in
        let d = a.dialect in
        let own : projection_at dot (c ∷ []) ≡ Some n = sym (projection_alone dot here.sight c) ∙ there in
        let lt : n < length (document_terms (c ∷ [])) = (position-Some (asks_at dot) (document_terms (c ∷ [])) n (tree_in [] 0) own).0 in
        let label = label_told dot (term_of (tree_in (document_terms Alone) n)).own (position-Some (asks_at dot) (document_terms Alone) n (tree_in [] 0) there).1 in
        record {
          number = n;
          there = own;
          listed = λ whole behind are same none.
              let is_small : IsSmall whole d = subst (λ o. IsSizedBy whole o d) none_large (sized whole are) in
              let written : first_too_large [] (Done ++ (here.around.own ++ behind)) ≡ None =
              ap (first_too_large []) (sym (append_assoc Done here.around.own behind) ∙ sym same) ∙ no_written whole d is_small in
              let later : first_too_large (abbreviations_behind Done) (here.around.own ++ behind) ≡ None =
              none_second (first_too_large [] Done) (first_too_large (abbreviations_behind Done) (here.around.own ++ behind)) (sym (too_large_append Done (here.around.own ++ behind)) ∙ written) in
              let others : first_too_large (abbreviations_after (abbreviations_behind Done) c) behind ≡ None =
              ap (λ bs. first_too_large bs behind) (after_none (abbreviations_behind Done) c (term_none c n lt))
              ∙ behind_own (abbreviations_behind Done) here.around.own behind (recursion_from_All (λ o. type_name_bound o ≡ None) here.around.own none) later in
              small is_small
              (listed_there Done pre Before Entries c behind (answers (types_in a.types) (all_types here.around.before)) known.blames d known.checked alike n items lt
              (projection_there Done pre Before Entries c behind (answers (types_in a.types) (all_types here.around.before)) known.blames d known.checked alike n label.0 lt label.1)
              others listed);
        }
