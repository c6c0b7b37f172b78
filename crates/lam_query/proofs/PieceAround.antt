-- The piece around an offset, by its row: where it stands in the text, and what names mean in front of it.
use Rattle.std.proofs.Common.{◌≡◌, ℕ, ◌+◌, ◌<◌, ◌≤◌, true, get_or, List, [], ◌∷◌, ◌++◌, append-nil, length, take, drop, slice_range, map, refl, sym, ap, subst, ◌∙◌, arith}
use Rattle.std.specs.List.{All}
use Rattle.std.specs.Str.{IsUtf8, IsCharBoundary}
use Rattle.std.proofs.lemmas.List.{length-append, length-map, length-take-le, get_or_at, take_at, drop_at, drop_all, take-append-drop, take-append-le, take-map, take_all}
use Rattle.std.proofs.lemmas.List.Elements.{All-take}
use Rattle.std.proofs.lemmas.Slice.{between_is}
use Rattle.lam_token.specs.Cut.{AreTokensFrom}
use Rattle.lam_token.specs.Lexeme.{Lexeme}
use Rattle.lam_token.specs.MovedTokens.{moved_by}
use Rattle.lam_token.proofs.Cuts.{one_list_from}
use Rattle.lam_token.proofs.MovedTokens.{moved_further}
use Rattle.lam_rules.specs.Types.{Typ}
use Rattle.lam_rules.specs.declared.rules.Dialect.{Dialect}
use Rattle.lam_syntax.specs.Answers.{ends_piece, is_semicolon}
use Rattle.lam_syntax.specs.Trees.{CommandTree}
use Rattle.lam_syntax.proofs.Complete.{one_tree}
use Rattle.lam_scope.specs.Names.{Name}
use Rattle.lam_typing.specs.Checking.{types_in}
use Rattle.lam_query.specs.declared.analyses.Analysis.{Analysis}
use Rattle.lam_query.specs.declared.pieces.PieceAt.{PieceAt}
use Rattle.lam_query.specs.declared.rows.PlacedRow.{PlacedRow}
use Rattle.lam_query.specs.declared.rows.Row.{Row as RustRow}
use Rattle.lam_query.specs.Analyses.{IsAnalysisOf}
use Rattle.lam_query.specs.inner.Around.{IsPieceAround}
use Rattle.lam_query.specs.inner.Entered.{Lookup}
use Rattle.lam_query.specs.inner.Kept.{Row, row_of, rows_of, row_after, placed, bytes_of}
use Rattle.lam_query.specs.inner.OnePiece.{HaveNoSemicolon, IsOwnOf, one_command, no_command, ArePieceTokens, before_semicolon, at_end}
use Rattle.lam_query.specs.inner.PieceRows.{Sight, outset, AreTokensIn, alone, AreRows, joined, IsEnded}
use Rattle.lam_query.specs.inner.PieceRows.{before_semicolon as with_semicolon}
use Rattle.lam_query.specs.inner.Rows.{Front, nothing, front_with, IsRow, AreRowsFrom, IsRowAround}
use Rattle.lam_query.proofs.OneCommand.{none_within, one_front}
use Rattle.lam_query.proofs.PieceRowLists.{as_many as as_many_rows, bytes_are, joined_append, rows_split}
use Rattle.lam_query.proofs.RowBytes.{bytes_append}
use Rattle.lam_query.proofs.RowPieces.{part_ends, begins_between, ends_between}
use Rattle.lam_query.proofs.RowsInText.{none_moved, in_text, AreMeantAhead, meant_ahead}
use Rattle.lam_query.proofs.RowsPlaced.{placed_append, as_many_placed, placed_ends, around_row}

-- ---- behind rows there is one front

pub own_same : (tokens : List Lexeme) (own others : List CommandTree) → IsOwnOf tokens own → IsOwnOf tokens others → own ≡ others
own_same tokens _ _ (one_command h) (one_command k) = ap (λ c. c ∷ []) (one_tree h.spelled k.spelled)
own_same tokens _ _ (one_command {c = c} h) (no_command k) = absurd (k c h)
own_same tokens _ _ (no_command h) (one_command {c = c} k) = absurd (h c k)
own_same tokens _ _ (no_command h) (no_command k) = refl

tokens_same : (start : ℕ) (piece rest : List ℕ) (ts us : List Lexeme) → HaveNoSemicolon ts → HaveNoSemicolon us
    → ArePieceTokens start piece rest ts → ArePieceTokens start piece rest us → ts ≡ us
tokens_same start piece rest ts us none none' (before_semicolon t are kind ends) (before_semicolon u are' kind' ends') =
    one_front ts [] us [] t u none none' (ap ends_piece kind) (ap ends_piece kind') (one_list_from start piece (us ++ u ∷ []) (ts ++ t ∷ []) are' are)
tokens_same start piece rest ts us none none' (before_semicolon t are kind ends) (at_end are' last) =
    absurd (none_within ts [] t (subst HaveNoSemicolon (one_list_from start piece (ts ++ t ∷ []) us are are') none') (ap ends_piece kind))
tokens_same start piece rest ts us none none' (at_end are last) (before_semicolon u are' kind' ends') =
    absurd (none_within us [] u (subst HaveNoSemicolon (one_list_from start piece (us ++ u ∷ []) ts are' are) none) (ap ends_piece kind'))
tokens_same start piece rest ts us none none' (at_end are last) (at_end are' last') = one_list_from start piece us ts are' are

row_own_same : (text : List ℕ) (f : Front) (own others : List CommandTree) (r : Row) (ts : List Typ) (d : Dialect)
    → IsRow text f own r ts d → IsRow text f others r ts d → own ≡ others
row_own_same text f own others r ts d is is' =
    let same =
    tokens_same (length (take f.end text)) (slice_range text f.end r.end) (drop r.end text) is.tokens is'.tokens is.piece.one_piece is'.piece.one_piece
    is.piece.are_own is'.piece.are_own in
    own_same is'.tokens own others (subst (λ us. IsOwnOf us own) same is.is_own) is'.is_own

front_same : (text : List ℕ) (f : Front) (rows : List Row) (g e : Front) (ts : List Typ) (d : Dialect)
    → AreRowsFrom text f rows g ts d → AreRowsFrom text f rows e ts d → g ≡ e
front_same text f [] g e ts d are are' = sym are ∙ are'
front_same text f (r ∷ rows) g e ts d are are' =
    let same = row_own_same text f are.0 are'.0 r ts d are.1 are'.1 in
    front_same text (front_with f are'.0 ts r) rows g e ts d (subst (λ own. AreRowsFrom text (front_with f own ts r) rows g ts d) same are.2) are'.2

-- ---- the row around the offset

-- the rows of an analysis, where they stand in its text
abbrev pub rows_in : Analysis → List Row
rows_in a = placed 0 (rows_of a.rows.items)

-- it is found among the rows of the analysis
pub around_in : (text : List ℕ) (a : Analysis) (o : ℕ) (p : PlacedRow) → IsAnalysisOf text a → (rows : List RustRow) → rows ≡ a.rows.items
    → ((text : List ℕ) (f : Front) (ts : List Typ) (d : Dialect) → AreRowsFrom text nothing (placed 0 (rows_of rows)) f ts d → f.end ≡ length text
    → IsRowAround text o (placed 0 (rows_of rows)) p ts d)
    → IsRowAround text o (rows_in a) p (types_in a.types) a.dialect
around_in text a o p h rows are there =
    let ts = types_in a.types in
    let all = in_text text a h in
    subst (λ rs. IsRowAround text o (placed 0 (rows_of rs)) p ts a.dialect) are
    (there text all.front ts a.dialect (subst (λ rs. AreRowsFrom text nothing (placed 0 (rows_of rs)) all.front ts a.dialect) (sym are) all.rows) all.whole)

module _ (text : List ℕ) (a : Analysis) (o : ℕ) (p : PlacedRow) (around : IsRowAround text o (rows_in a) p (types_in a.types) a.dialect) where
  abbrev Numbers : List Typ
  Numbers = types_in a.types

  pub number_inside : p.number < length a.rows.items
  number_inside = omega (
    arith,
    around.counted,
    ap length around.are,
    length-append around.before (around.row ∷ around.after),
    as_many_placed 0 (rows_of a.rows.items),
    length-map a.rows.items row_of,
  )

  abbrev Ahead : List Row
  Ahead = rows_of (take p.number a.rows.items)

  as_many_ahead : length (placed 0 Ahead) ≡ p.number
  as_many_ahead = omega (
    arith,
    number_inside,
    as_many_placed 0 Ahead,
    length-map (take p.number a.rows.items) row_of,
    length-take-le p.number a.rows.items (omega (arith, number_inside)),
  )

  -- it is this one
  module _ (r e : RustRow) (is : r ≡ get_or a.rows.items p.number e) where
    abbrev Behind : List Row
    Behind = rows_of (drop (p.number + 1) a.rows.items)

    abbrev There : Row
    There = row_after p.start (row_of r)

    parts : rows_in a ≡ placed 0 Ahead ++ placed (bytes_of Ahead + 0) (row_of (get_or a.rows.items p.number e) ∷ Behind)
    parts =
        ap (placed 0) (around_row a.rows.items p.number e number_inside) ∙ placed_append 0 Ahead (row_of (get_or a.rows.items p.number e) ∷ Behind)

    pub same_ahead : around.before ≡ placed 0 Ahead
    same_ahead =
        sym (take_at around.before (around.row ∷ around.after) p.number (sym around.counted)) ∙ ap (take p.number) (sym around.are ∙ parts)
        ∙ take_at (placed 0 Ahead) (placed (bytes_of Ahead + 0) (row_of (get_or a.rows.items p.number e) ∷ Behind)) p.number as_many_ahead

    pub bytes_ahead : bytes_of Ahead + 0 ≡ p.start
    bytes_ahead =
        let end =
        placed_ends text nothing Ahead around.front Numbers a.dialect
        (subst (λ rs. AreRowsFrom text nothing rs around.front Numbers a.dialect) same_ahead around.rows_before) in
        omega (arith, end, around.starts)

    pub row_same : around.row ≡ There
    row_same =
        sym (get_or_at around.before around.row around.after around.row p.number (sym around.counted))
        ∙ ap (λ rs. get_or rs p.number around.row) (sym around.are ∙ parts)
        ∙ get_or_at (placed 0 Ahead) (row_after (bytes_of Ahead + 0) (row_of (get_or a.rows.items p.number e)))
        (placed ((get_or a.rows.items p.number e).end + (bytes_of Ahead + 0)) Behind) around.row p.number as_many_ahead
        ∙ (λ j. row_after (bytes_ahead j) (row_of (sym is j)))

    pub ends_there : around.row.end ≡ p.start + r.end
    ends_there = let end : There.end ≡ p.start + r.end = omega arith in ap (λ (s : Row). s.end) row_same ∙ end

    pub ends_inside : p.start + r.end ≤ length text
    ends_inside = let inside = around.is_row.inside in omega (arith, inside, ends_there)

    -- it begins and ends between characters

    pub starts_between : IsUtf8 text → IsCharBoundary text p.start
    starts_between is_text =
        subst (IsCharBoundary text) (sym around.starts)
        (begins_between text around.front.end around.row.end around.is_row.tokens is_text around.is_row.forward around.is_row.inside around.is_row.piece)

    pub stops_between : IsUtf8 text → IsCharBoundary text (p.start + r.end)
    stops_between is_text =
        subst (IsCharBoundary text) ends_there
        (ends_between text around.front.end around.row.end around.is_row.tokens is_text around.is_row.forward around.is_row.inside around.is_row.piece)

    -- ---- the pieces ahead, and what names mean behind them

    module _ (h : IsAnalysisOf text a) where
      abbrev Pieces : List (List ℕ)
      Pieces = h.ended ++ h.last ∷ []

      abbrev pub PiecesAhead : List (List ℕ)
      PiecesAhead = take p.number Pieces

      as_many_pieces : length a.rows.items ≡ length h.ended + 1
      as_many_pieces = omega (
        arith,
        as_many_rows outset Pieces (rows_of a.rows.items) h.sight Numbers a.bound a.dialect h.rows,
        length-map a.rows.items row_of,
        length-append h.ended (h.last ∷ []),
      )

      pub split : (mid : Sight) × AreRows outset PiecesAhead (take p.number (rows_of a.rows.items)) mid Numbers a.bound a.dialect
          × AreRows mid (drop p.number Pieces) (drop p.number (rows_of a.rows.items)) h.sight Numbers a.bound a.dialect
      split = rows_split p.number outset Pieces (rows_of a.rows.items) h.sight Numbers a.bound a.dialect h.rows

      pub before : AreRows outset PiecesAhead Ahead split.0 Numbers a.bound a.dialect
      before =
          subst (λ rs. AreRows outset PiecesAhead rs split.0 Numbers a.bound a.dialect) (take-map row_of p.number a.rows.items) split.1

      ended_ahead : All IsEnded PiecesAhead
      ended_ahead =
          subst (All IsEnded) (sym (take-append-le p.number h.ended (h.last ∷ []) (omega (arith, number_inside, as_many_pieces))))
          (All-take IsEnded p.number h.ended h.made_up.all_ended)

      divides : text ≡ joined PiecesAhead ++ joined (drop p.number Pieces)
      divides = h.made_up.whole ∙ ap joined (sym (take-append-drop p.number Pieces)) ∙ joined_append PiecesAhead (drop p.number Pieces)

      meant : AreMeantAhead text Ahead split.0 Numbers a.dialect
      meant = meant_ahead text PiecesAhead (joined (drop p.number Pieces)) Ahead split.0 Numbers a.bound a.dialect divides ended_ahead before

      same_front : around.front ≡ meant.front
      same_front =
          front_same text nothing (placed 0 Ahead) around.front meant.front Numbers a.dialect
          (subst (λ rs. AreRowsFrom text nothing rs around.front Numbers a.dialect) same_ahead around.rows_before) meant.are

      pub names_ahead : (x : Name) → around.front.names x ≡ split.0.names x
      names_ahead x = ap (λ (f : Front). f.names x) same_front ∙ ap (λ (look : Lookup). look x) meant.names

      pub types_ahead : (x : Name) → around.front.types x ≡ split.0.types x
      types_ahead x = ap (λ (f : Front). f.types x) same_front ∙ ap (λ (look : Lookup). look x) meant.types

      -- ---- the last piece

      -- no row comes behind it
      module _ (last : around.after ≡ []) where
        number_last : p.number ≡ length h.ended
        number_last = omega (
          arith,
          around.counted,
          ap length around.are,
          length-append around.before (around.row ∷ around.after),
          ap length last,
          as_many_placed 0 (rows_of a.rows.items),
          length-map a.rows.items row_of,
          as_many_pieces,
        )

        left : drop p.number Pieces ≡ h.last ∷ []
        left = drop_at h.ended (h.last ∷ []) p.number (sym number_last)

        tokens_left : (pieces : List (List ℕ)) (rows : List Row) (s : Sight) → pieces ≡ h.last ∷ []
            → AreRows s pieces rows h.sight Numbers a.bound a.dialect → (tokens : List Lexeme) × AreTokensIn h.last tokens × HaveNoSemicolon tokens
        tokens_left [] rows s is are = absurd cc
        tokens_left (q ∷ qs) [] s is are = absurd are
        tokens_left (q ∷ qs) (row ∷ rows) s is are =
            let first : q ≡ h.last = cc in
            (are.1.tokens, subst (λ piece. AreTokensIn piece are.1.tokens) first are.1.are, are.1.one_piece)

        own_left : (tokens : List Lexeme) × AreTokensIn h.last tokens × HaveNoSemicolon tokens
        own_left = tokens_left (drop p.number Pieces) (drop p.number (rows_of a.rows.items)) split.0 left split.2

        text_is : text ≡ joined PiecesAhead ++ h.last
        text_is = divides ∙ ap (λ ps. joined PiecesAhead ++ joined ps) left ∙ ap (λ bytes. joined PiecesAhead ++ bytes) (append-nil h.last)

        starts_at : length (joined PiecesAhead) ≡ around.front.end
        starts_at = omega (
          arith,
          bytes_are outset PiecesAhead Ahead split.0 Numbers a.bound a.dialect before,
          bytes_ahead,
          around.starts,
        )

        ends_at : around.row.end ≡ length text
        ends_at =
            let all = in_text text a h in
            omega (
              arith,
              ends_there,
              ap (λ (s : RustRow). s.end) is,
              bytes_ahead,
              placed_ends text nothing (rows_of a.rows.items) all.front Numbers a.dialect all.rows,
              all.whole,
              ap bytes_of (around_row a.rows.items p.number e number_inside),
              bytes_append Ahead (row_of (get_or a.rows.items p.number e) ∷ Behind),
              ap (λ rs. bytes_of (rows_of rs)) (drop_all (p.number + 1) a.rows.items (omega (arith, number_last, as_many_pieces))),
            )

        piece_left : slice_range text around.front.end around.row.end ≡ h.last
        piece_left =
            between_is text around.front.end around.row.end
            ∙ ap (drop around.front.end) (take_all around.row.end text (omega (arith, ends_at)) ∙ text_is)
            ∙ drop_at (joined PiecesAhead) h.last around.front.end starts_at

        -- no semicolon ends it
        pub last_not_ended : (start : ℕ) (ts : List Lexeme) (t : Lexeme) → AreTokensFrom start (slice_range text around.front.end around.row.end) (ts ++ t ∷ [])
            → is_semicolon t ≡ true → ⊥
        last_not_ended start ts t are ends = by own_left.0 own_left.1 own_left.2
          where
            by : (tokens : List Lexeme) → AreTokensIn h.last tokens → HaveNoSemicolon tokens → ⊥
            by tokens (with_semicolon s own kind to) none =
                h.made_up.not_ended (record { tokens = tokens; semicolon = s; are = own; kind = kind; ends = to })
            by tokens (alone own) none =
                let there = subst (λ piece. AreTokensFrom start piece (ts ++ t ∷ [])) piece_left are in
                let same = one_list_from start h.last (ts ++ t ∷ []) (map (moved_by start) tokens) there (moved_further start h.last tokens own) in
                none_within ts [] t (subst HaveNoSemicolon same (none_moved start tokens none)) ends

-- ---- the piece itself

pub piece_is : (text : List ℕ) (a : Analysis) (o : ℕ) (q : PieceAt)
    (around : IsRowAround text o (rows_in a) (record { start = q.start; number = q.number }) (types_in a.types) a.dialect)
    (r e : RustRow) → r ≡ get_or a.rows.items q.number e → IsAnalysisOf text a → q.text.now ≡ slice_range text q.start (q.start + r.end)
    → IsPieceAround text o a q
piece_is text a o q around r e is h letters =
    let p : PlacedRow = record { start = q.start; number = q.number } in
    let ends = ends_there text a o p around r e is in
    record {
      inside = number_inside text a o p around;
      around = around;
      rows_before = same_ahead text a o p around r e is;
      letters =
          letters ∙ ap (λ n. slice_range text n (q.start + r.end)) around.starts ∙ ap (slice_range text around.front.end) (sym ends);
      sight = (split text a o p around r e is h).0;
      pieces = PiecesAhead text a o p around r e is h;
      before = before text a o p around r e is h;
      names = names_ahead text a o p around r e is h;
      types = types_ahead text a o p around r e is h;
    }

-- it stands in the text
pub piece_inside : (text : List ℕ) (a : Analysis) (o : ℕ) (q : PieceAt) → IsPieceAround text o a q → q.start + length q.text.now ≤ length text
piece_inside text a o q here =
    let row = here.around.is_row in
    omega (
      arith,
      ap length here.letters,
      here.around.starts,
      part_ends text here.around.front.end here.around.row.end row.forward row.inside,
      length-take-le here.around.front.end text (omega (arith, row.forward, row.inside)),
      row.inside,
    )

-- its tokens, and the command that it alone is read as

pub tokens_there : (text : List ℕ) (a : Analysis) (o : ℕ) (q : PieceAt) (here : IsPieceAround text o a q)
    → ArePieceTokens q.start q.text.now (drop here.around.row.end text) here.around.is_row.tokens
tokens_there text a o q here =
    let row = here.around.is_row in
    let starts : length (take here.around.front.end text) ≡ q.start =
    length-take-le here.around.front.end text (omega (arith, row.forward, row.inside)) ∙ sym here.around.starts in
    subst (λ bytes. ArePieceTokens q.start bytes (drop here.around.row.end text) row.tokens) (sym here.letters)
    (subst (λ n. ArePieceTokens n (slice_range text here.around.front.end here.around.row.end) (drop here.around.row.end text) row.tokens) starts
    row.piece.are_own)

pub own_read : (text : List ℕ) (a : Analysis) (o : ℕ) (q : PieceAt) (here : IsPieceAround text o a q) (own : List CommandTree)
    → ((rest : List ℕ) (tokens : List Lexeme) → ArePieceTokens q.start q.text.now rest tokens → HaveNoSemicolon tokens → IsOwnOf tokens own)
    → here.around.own ≡ own
own_read text a o q here own read =
    let row = here.around.is_row in
    own_same row.tokens here.around.own own row.is_own (read (drop here.around.row.end text) row.tokens (tokens_there text a o q here) row.piece.one_piece)

-- ---- there is one

pub some_row : (text : List ℕ) (a : Analysis) → IsAnalysisOf text a → a.rows.items ≡ [] → ⊥
some_row text a h none =
    let many = as_many_rows outset (h.ended ++ h.last ∷ []) (rows_of a.rows.items) h.sight (types_in a.types) a.bound a.dialect h.rows in
    absurd (omega (arith, many, length-map a.rows.items row_of, ap length none, length-append h.ended (h.last ∷ [])))

-- no semicolon ends that of the last row
pub piece_not_ended : (text : List ℕ) (a : Analysis) (o : ℕ) (q : PieceAt) → IsAnalysisOf text a → (here : IsPieceAround text o a q) → here.around.after ≡ []
    → (start : ℕ) (ts : List Lexeme) (t : Lexeme) → AreTokensFrom start (slice_range text here.around.front.end here.around.row.end) (ts ++ t ∷ [])
    → is_semicolon t ≡ true → ⊥
piece_not_ended text a o q h here last start ts t are ends = by a.rows.items refl
  where
    by : (rows : List RustRow) → a.rows.items ≡ rows → ⊥
    by [] none = some_row text a h none
    by (e ∷ rows) some =
        last_not_ended text a o (record { start = q.start; number = q.number }) here.around (get_or a.rows.items q.number e) e refl h last start ts t are ends
