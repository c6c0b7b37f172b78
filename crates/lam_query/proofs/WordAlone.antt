-- The word that the cursor touches in a text, and the variable that it is, by the piece there and by its command alone.
use Rattle.std.proofs.Common.{◌≡◌, ℕ, ◌+◌, ◌<◌, ◌≤◌, Bool, true, false, not, ltb, cond, List, [], ◌∷◌, ◌++◌, append-nil, length, map, take, drop, slice_range, Option, Some, None, refl, sym, ap, subst, ◌∙◌, arith}
use Rattle.std.specs.Prelude.{◌&&◌}
use Rattle.std.specs.List.{AllByRecursion, find, position, position_from}
use Rattle.std.specs.Option.{option_map, option_or}
use Rattle.std.proofs.lemmas.Iterator.Adapters.{position_from-zero}
use Rattle.std.proofs.lemmas.List.{length-take-le}
use Rattle.std.proofs.lemmas.List.Folds.{find-append}
use Rattle.std.proofs.lemmas.List.Quantifiers.{position-Some}
use Rattle.lam_token.specs.Cut.{AreTokensFrom, AreTokensOf}
use Rattle.lam_token.specs.Lexeme.{Lexeme, start_of, end_of}
use Rattle.lam_rules.specs.Types.{Label}
use Rattle.lam_syntax.specs.Answers.{pieces_of}
use Rattle.lam_syntax.specs.Trees.{CommandTree}
use Rattle.lam_scope.specs.PlacedTerms.{OwnWord, PlacedTree, term_of, tree_in, is_variable_at, command_terms, document_terms, variable_at}
use Rattle.lam_scope.specs.Tables.{table}
use Rattle.lam_scope.proofs.PlacedRows.{as_many_rows}
use Rattle.lam_query.specs.declared.analyses.Analysis.{Analysis}
use Rattle.lam_query.specs.declared.pieces.PieceAt.{PieceAt}
use Rattle.lam_query.specs.declared.stand_ins.Alone.{Alone}
use Rattle.lam_query.specs.Analyses.{IsAnalysisOf}
use Rattle.lam_query.specs.Commands.{AreCommandsOf}
use Rattle.lam_query.specs.Completions.{is_word_kind, reaches, is_touched, is_in_front, is_behind, touched_word, IsProjected, Item, AreNames, AreItems}
use Rattle.lam_query.specs.inner.Around.{IsPieceAround, IsAloneAround, first_term}
use Rattle.lam_query.specs.inner.Checked.{abbreviations_behind, names_behind, scope_behind}
use Rattle.lam_query.specs.inner.OnePiece.{HaveNoSemicolon, IsOwnOf, ArePieceTokens, before_semicolon, at_end}
use Rattle.lam_query.specs.inner.PieceRows.{Sight}
use Rattle.lam_query.specs.inner.StandIns.{stand_ins, IsAlone}
use Rattle.lam_query.proofs.CheckedLists.{terms_push, first_or_none}
use Rattle.lam_query.proofs.Completing.{off_word, off_variable, on_variable}
use Rattle.lam_query.proofs.CursorTokens.{touched_later}
use Rattle.lam_query.proofs.InText.{IsInText}
use Rattle.lam_query.proofs.PieceInText.{piece_in_text}
use Rattle.lam_query.proofs.RowPieces.{part_ends}
use Rattle.lam_query.proofs.StandInsSeen.{stand_ins_terms}
use Rattle.lam_query.proofs.TermsAlone.{bare, same_own, command_alone}
use Rattle.lam_query.proofs.PieceAround.{own_same}

-- ---- tokens that the cursor does not touch

untouched : (a b : Bool) → (not a && not b) ≡ true → a ≡ false
untouched false b is = refl
untouched true b is = absurd cc

abbrev AreUntouched : ℕ → List Lexeme → Type 0
AreUntouched o ts = AllByRecursion (λ t. is_touched o t ≡ false) ts

front_untouched : (o : ℕ) (ts : List Lexeme) → AllByRecursion (λ t. is_in_front o t ≡ true) ts → AreUntouched o ts
front_untouched o [] each = tt
front_untouched o (t ∷ ts) each = (untouched (is_touched o t) (ltb o (end_of t)) each.0, front_untouched o ts each.1)

behind_untouched : (o : ℕ) (ts : List Lexeme) → AllByRecursion (λ t. is_behind o t ≡ true) ts → AreUntouched o ts
behind_untouched o [] each = tt
behind_untouched o (t ∷ ts) each = (untouched (is_touched o t) (ltb (start_of t) o) each.0, behind_untouched o ts each.1)

none_touched : (o : ℕ) (ts : List Lexeme) → AreUntouched o ts → touched_word o ts ≡ None
none_touched o [] each = refl
none_touched o (t ∷ ts) each = touched_later o t (t ∷ ts) ts refl each.0 ∙ none_touched o ts each.1

touched_between : (o : ℕ) (before own after : List Lexeme) → AreUntouched o before → AreUntouched o after → touched_word o (before ++ (own ++ after)) ≡ touched_word o own
touched_between o before own after front behind =
    find-append (is_touched o) before (own ++ after)
    ∙ ap (λ found. option_or found (touched_word o (own ++ after))) (none_touched o before front)
    ∙ find-append (is_touched o) own after
    ∙ ap (option_or (touched_word o own)) (none_touched o after behind)
    ∙ first_or_none (touched_word o own)

-- ---- the tokens of a piece

-- what is found among all of them is found among those without the semicolon
piece_touched : (o start : ℕ) (piece rest : List ℕ) (tokens : List Lexeme) (found : Option ℕ) → ArePieceTokens start piece rest tokens
    → ((ts : List Lexeme) → AreTokensFrom start piece ts → found ≡ option_map start_of (touched_word o ts)) → found ≡ option_map start_of (touched_word o tokens)
piece_touched o start piece rest tokens found (before_semicolon t are kind ends) told =
    let semicolon : is_touched o t ≡ false = ap (λ k. is_word_kind k && reaches o t) kind in
    told (tokens ++ t ∷ []) are ∙ ap (option_map start_of) (touched_between o [] tokens (t ∷ []) tt (semicolon, tt))
piece_touched o start piece rest tokens found (at_end are none) told = told tokens are

found_inside : (f : Lexeme → Bool) (P : Lexeme → Type 0) (ts : List Lexeme) (t : Lexeme) → find f ts ≡ Some t → AllByRecursion P ts → P t
found_inside f P [] t found each = absurd cc
found_inside f P (u ∷ ts) t found each = by (f u) found (λ later. found_inside f P ts t later each.1)
  where
    by : (b : Bool) → cond b (Some u) (find f ts) ≡ Some t → (find f ts ≡ Some t → P t) → P t
    by true is rest = let same : u ≡ t = cc in subst P same each.0
    by false is rest = rest is

-- the word that the cursor touches among tokens, by its first byte
record IsWord (o : ℕ) (tokens : List Lexeme) (start : ℕ) : Type 0 where
  word : Lexeme
  begins : start ≡ start_of word
  is_there : touched_word o tokens ≡ Some word

the_word : (o : ℕ) (tokens : List Lexeme) (start : ℕ) → Some start ≡ option_map start_of (touched_word o tokens) → IsWord o tokens start
the_word o tokens start told = by (touched_word o tokens) refl told
  where
    by : (found : Option Lexeme) → touched_word o tokens ≡ found → Some start ≡ option_map start_of found → IsWord o tokens start
    by None is clash = absurd cc
    by (Some word) is same = record { word = word; begins = cc; is_there = is }

-- ---- own words of a command behind others that have no terms

module _ (f : OwnWord → Bool) where
  abbrev Numbered : List PlacedTree → Option ℕ
  Numbered ts = position (λ t. f (term_of t).own) ts

  bare_from : (n : ℕ) (ts : List PlacedTree) → position_from (λ t. f (term_of t).own) n (map bare ts) ≡ position_from (λ t. f (term_of t).own) n ts
  bare_from n [] = refl
  bare_from n (t ∷ ts) =
      let here = ap f (same_own t) in
      let rest = bare_from (n + 1) ts in
      λ i. cond (here i) (Some n) (rest i)

  bare_word : (ts : List PlacedTree) → Numbered (map bare ts) ≡ Numbered ts
  bare_word ts =
      let own : PlacedTree → Bool = λ t. f (term_of t).own in
      position_from-zero own (map bare ts) ∙ bare_from 0 ts ∙ sym (position_from-zero own ts)

  pub word_alone : (pre : List CommandTree) (c : CommandTree) → document_terms pre ≡ [] → Numbered (document_terms (pre ++ c ∷ [])) ≡ Numbered (document_terms (c ∷ []))
  word_alone pre c none =
      let behind = command_terms (abbreviations_behind pre) (names_behind pre) (scope_behind pre) c in
      let alone = command_terms [] [] [] c in
      ap Numbered (terms_push pre c ∙ ap (λ ts. ts ++ behind) none)
      ∙ sym (bare_word behind)
      ∙ ap Numbered (command_alone (abbreviations_behind pre) [] (names_behind pre) [] (scope_behind pre) [] c)
      ∙ bare_word alone
      ∙ ap Numbered (sym (append-nil alone))

-- ---- in the text

module _ (text : List ℕ) (offset : ℕ) (a : Analysis) (p : PieceAt) (here : IsPieceAround text offset a p) where
  abbrev Own : List Lexeme
  Own = here.around.is_row.tokens

  tokens_there : ArePieceTokens p.start p.text.now (drop here.around.row.end text) Own
  tokens_there =
      let front = here.around.front in
      let end = here.around.row.end in
      let forward = here.around.is_row.forward in
      let inside = here.around.is_row.inside in
      let start : length (take front.end text) ≡ p.start = length-take-le front.end text (omega (arith, forward, inside)) ∙ sym here.around.starts in
      subst (λ piece. ArePieceTokens p.start piece (drop end text) Own) (sym here.letters)
      (subst (λ n. ArePieceTokens n (slice_range text front.end end) (drop end text) Own) start here.around.is_row.piece.are_own)

  -- its bytes are bytes of the text
  pub piece_ends : p.start + length p.text.now ≤ length text
  piece_ends =
      let front = here.around.front in
      let end = here.around.row.end in
      let forward = here.around.is_row.forward in
      let inside = here.around.is_row.inside in
      let start : length (take front.end text) ≡ front.end = length-take-le front.end text (omega (arith, forward, inside)) in
      omega (arith, part_ends text front.end end forward inside, start, here.around.starts, ap length here.letters, inside)

  -- the command that it is read as, if it is one, is its own
  pub own_read : (own : List CommandTree)
      → ((rest : List ℕ) (ts : List Lexeme) → ArePieceTokens p.start p.text.now rest ts → HaveNoSemicolon ts → IsOwnOf ts own) → here.around.own ≡ own
  own_read own read =
      own_same Own here.around.own own here.around.is_row.is_own (read (drop here.around.row.end text) Own tokens_there here.around.is_row.piece.one_piece)

  abbrev pub alone_around : (c : CommandTree) (alone : Alone) → here.around.own ≡ c ∷ [] → IsAlone here.sight c alone → IsAloneAround text offset a p c alone
  alone_around c alone own is = record { there = record { here = here; own = own }; is_alone = is }

  module _ (of : IsAnalysisOf text a) (tokens : List Lexeme) (commands : List CommandTree) (are : AreTokensOf text tokens) (are_commands : AreCommandsOf (pieces_of tokens) commands)
      (none : (l : Label) → IsProjected tokens offset l → ⊥) where
    in_text : IsInText here tokens commands
    in_text = piece_in_text text offset a p tokens commands of here are are_commands

    same_word : touched_word offset tokens ≡ touched_word offset Own
    same_word =
        ap (touched_word offset) in_text.divides
        ∙ touched_between offset in_text.before Own in_text.after (front_untouched offset in_text.before in_text.in_front) (behind_untouched offset in_text.after in_text.behind)

    abbrev IsTouched : Option ℕ → Type 0
    IsTouched found = (ts : List Lexeme) → AreTokensFrom p.start p.text.now ts → found ≡ option_map start_of (touched_word offset ts)

    word_told : (found : Option ℕ) → IsTouched found → found ≡ option_map start_of (touched_word offset tokens)
    word_told found told = piece_touched offset p.start p.text.now (drop here.around.row.end text) Own found tokens_there told ∙ ap (option_map start_of) (sym same_word)

    pub no_word : (found : Option ℕ) → IsTouched found → found ≡ None → AreItems commands tokens offset [] a.dialect
    no_word found told is = off_word tokens commands offset a.dialect none found (word_told found told) is

    module _ (start : ℕ) (told : IsTouched (Some start)) where
      at : IsWord offset Own start
      at = the_word offset Own start (piece_touched offset p.start p.text.now (drop here.around.row.end text) Own (Some start) tokens_there told)

      inside : p.start ≤ start_of at.word
      inside = found_inside (is_touched offset) (λ t. p.start ≤ start_of t) Own at.word at.is_there in_text.own_inside

      others_behind : AllByRecursion (λ u. start_of at.word < start_of u) in_text.after
      others_behind = found_inside (is_touched offset) (λ t. AllByRecursion (λ u. start_of t < start_of u) in_text.after) Own at.word at.is_there in_text.own_before

      pub no_command_there : here.around.own ≡ [] → AreItems commands tokens offset [] a.dialect
      no_command_there own =
          off_variable tokens commands offset a.dialect none start (word_told (Some start) told)
          (ap (λ o. variable_at o commands) at.begins ∙ in_text.no_variable_there at.word own inside others_behind)

      module _ (c : CommandTree) (own : here.around.own ≡ c ∷ []) (alone : Alone) (is : IsAlone here.sight c alone) where
        in_own : IsOwnOf Own (c ∷ [])
        in_own = subst (IsOwnOf Own) own here.around.is_row.is_own

        -- the number of the variable in the text, by that where the command stands alone
        variable_there : variable_at start commands ≡ option_map (λ n. first_term here + n) (variable_at start (c ∷ []))
        variable_there =
            ap (variable_at start) (in_text.are ∙ ap (λ cs. here.around.front.commands ++ (cs ++ in_text.rest)) own)
            ∙ subst (λ o. variable_at o (here.around.front.commands ++ (c ∷ in_text.rest)) ≡ option_map (λ n. first_term here + n) (variable_at o (c ∷ []))) (sym at.begins)
            (in_text.variable_there at.word c Own here.around.is_row.piece.one_piece in_own inside others_behind)

        variable_alone : (cs : List CommandTree) → cs ≡ stand_ins here.sight c ++ c ∷ [] → variable_at start cs ≡ variable_at start (c ∷ [])
        variable_alone cs are = ap (variable_at start) are ∙ word_alone (is_variable_at start) (stand_ins here.sight c) c (stand_ins_terms here.sight c)

        pub no_variable_there : (cs : List CommandTree) → cs ≡ stand_ins here.sight c ++ c ∷ [] → variable_at start cs ≡ None → AreItems commands tokens offset [] a.dialect
        no_variable_there cs are nowhere =
            off_variable tokens commands offset a.dialect none start (word_told (Some start) told)
            (variable_there ∙ ap (option_map (λ n. first_term here + n)) (sym (variable_alone cs are) ∙ nowhere))

        pub names_there : (cs : List CommandTree) (n : ℕ) (items : List Item) → cs ≡ stand_ins here.sight c ++ c ∷ [] → variable_at start cs ≡ Some n
            → AreNames commands (first_term here + n) items a.dialect → AreItems commands tokens offset items a.dialect
        names_there cs n items are there listed =
            on_variable tokens commands offset a.dialect none start (first_term here + n) items (word_told (Some start) told)
            (variable_there ∙ ap (option_map (λ n. first_term here + n)) (sym (variable_alone cs are) ∙ there)) listed

-- the variable is one of the terms of the command
pub variable_inside : (s : Sight) (c : CommandTree) (cs : List CommandTree) (start n : ℕ) → cs ≡ stand_ins s c ++ c ∷ [] → variable_at start cs ≡ Some n → n < length (table (c ∷ [])).places
variable_inside s c cs start n are there =
    let at : variable_at start (c ∷ []) ≡ Some n =
    sym (ap (variable_at start) are ∙ word_alone (is_variable_at start) (stand_ins s c) c (stand_ins_terms s c)) ∙ there in
    let among = (position-Some (λ t. is_variable_at start (term_of t).own) (document_terms (c ∷ [])) n (tree_in [] 0) at).0 in
    omega (arith, among, as_many_rows (c ∷ []))
