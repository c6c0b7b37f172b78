-- The piece around an offset among the tokens and the commands of its text.
use Rattle.std.proofs.Common.{◌≡◌, ◌⊎◌, ℕ, ◌+◌, ◌<◌, ◌≤◌, Bool, true, false, not, ltb, List, [], ◌∷◌, ◌++◌, append-nil, append_assoc, length, take, drop, slice_range, None, refl, sym, ap, subst, ◌∙◌, inl, inr, arith}
use Rattle.std.specs.Prelude.{◌&&◌}
use Rattle.std.specs.List.{AllByRecursion}
use Rattle.std.specs.Str.{IsUtf8}
use Rattle.std.proofs.lemmas.Bool.{le-ltb, lt-ltb}
use Rattle.std.proofs.lemmas.List.{length-take-le}
use Rattle.lam_token.specs.declared.kind.Kind.{Kind}
use Rattle.lam_token.specs.declared.kind.Kind.TheVariants as kind
use Rattle.lam_token.specs.Cut.{AreTokensFrom, AreTokensOf}
use Rattle.lam_token.specs.Divided.{SemicolonEndsAt, EndsInSemicolon}
use Rattle.lam_token.specs.Lexeme.{Lexeme, lexeme, kind_of, start_of, end_of}
use Rattle.lam_token.proofs.Cuts.{one_list}
use Rattle.lam_token.proofs.Divided.{divided_from, ends_append}
use Rattle.lam_token.proofs.SomeCut.{tokens_at, are_tokens_at}
use Rattle.lam_syntax.specs.Answers.{ends_piece, is_semicolon, pieces_of}
use Rattle.lam_syntax.specs.Trees.{CommandTree}
use Rattle.lam_syntax.specs.inner.Reads.{with_piece}
use Rattle.lam_scope.specs.Nesting.{TokensStand}
use Rattle.lam_scope.specs.PlacedTerms.{variable_at}
use Rattle.lam_typing.specs.Checking.{types_in}
use Rattle.lam_query.specs.declared.analyses.Analysis.{Analysis}
use Rattle.lam_query.specs.declared.pieces.PieceAt.{PieceAt}
use Rattle.lam_query.specs.Analyses.{IsAnalysisOf}
use Rattle.lam_query.specs.Commands.{AreCommandsOf}
use Rattle.lam_query.specs.Completions.{is_word_kind, reaches, is_touched, is_in_front, is_behind}
use Rattle.lam_query.specs.inner.Around.{IsPieceAround}
use Rattle.lam_query.specs.inner.OnePiece.{EndInSemicolon, BeginWithSemicolon, HaveNoSemicolon, IsOwnOf, ArePieceTokens, before_semicolon, at_end}
use Rattle.lam_query.specs.inner.Rows.{AreSpelled}
use Rattle.lam_query.proofs.DividedPieces.{pieces_behind, commands_joined, own_first, commands_around}
use Rattle.lam_query.proofs.InText.{IsInText}
use Rattle.lam_query.proofs.Innermost.{text_stands, tokens_stand_from, tokens_from_lower}
use Rattle.lam_query.proofs.OwnWordsThere.{begin_in_front, variable_among, projection_among, no_variable_among, no_projection_among}
use Rattle.lam_query.proofs.PieceAround.{piece_not_ended}
use Rattle.lam_query.proofs.PieceLaws.{some_commands}
use Rattle.lam_query.proofs.PieceOfText.{no_tokens, front_ends, front_joined}
use Rattle.lam_query.proofs.RowPieces.{part_ends}
use Rattle.lam_query.proofs.Semicolons.{semicolon_ends}
use Rattle.lam_query.proofs.SpelledRows.{spelled_through}

-- ---- tokens in front of the cursor, and behind it

-- a token that ends before the cursor is in front of it, and so is a semicolon that ends at it; it is the same behind the cursor
not_word : (k : Kind) → ends_piece k ≡ true → is_word_kind k ≡ false
not_word kind.Semicolon is = refl
not_word k is = absurd cc

passed : (a b : Bool) → a ≡ false → b ≡ false → (not a && not b) ≡ true
passed false false is is' = refl
passed a b is is' = absurd cc

untouched_kind : (a b : Bool) → a ≡ false → (a && b) ≡ false
untouched_kind false b is = refl
untouched_kind true b is = absurd cc

untouched_place : (a b c : Bool) → (b ≡ true) ⊎ (c ≡ true) → (a && (not b && not c)) ≡ false
untouched_place false b c is = refl
untouched_place true true c is = refl
untouched_place true false true is = refl
untouched_place true false false (inl is) = absurd cc
untouched_place true false false (inr is) = absurd cc

semicolon_in_front : (o : ℕ) (t : Lexeme) → is_semicolon t ≡ true → end_of t ≤ o → is_in_front o t ≡ true
semicolon_in_front o t is le =
    passed (is_touched o t) (ltb o (end_of t)) (untouched_kind (is_word_kind (kind_of t)) (reaches o t) (not_word (kind_of t) is)) (le-ltb o (end_of t) le)

other_in_front : (o : ℕ) (t : Lexeme) → end_of t < o → is_in_front o t ≡ true
other_in_front o t lt =
    passed (is_touched o t) (ltb o (end_of t))
    (untouched_place (is_word_kind (kind_of t)) (ltb o (start_of t)) (ltb (end_of t) o) (inr (lt-ltb (end_of t) o lt))) (le-ltb o (end_of t) (omega (arith, lt)))

semicolon_behind : (o : ℕ) (t : Lexeme) → is_semicolon t ≡ true → o ≤ start_of t → is_behind o t ≡ true
semicolon_behind o t is le =
    passed (is_touched o t) (ltb (start_of t) o) (untouched_kind (is_word_kind (kind_of t)) (reaches o t) (not_word (kind_of t) is)) (le-ltb (start_of t) o le)

other_behind : (o : ℕ) (t : Lexeme) → o < start_of t → is_behind o t ≡ true
other_behind o t lt =
    passed (is_touched o t) (ltb (start_of t) o)
    (untouched_place (is_word_kind (kind_of t)) (ltb o (start_of t)) (ltb (end_of t) o) (inl (lt-ltb o (start_of t) lt))) (le-ltb (start_of t) o (omega (arith, lt)))

-- those that a semicolon ends

goes_further : (low high end : ℕ) (ts : List Lexeme) → TokensStand low ts high → SemicolonEndsAt end ts → low < end
goes_further low high end [] stand ends = absurd ends
goes_further low high end (lexeme k x s ∷ []) stand ends = omega (arith, stand.0, stand.1, ends.1)
goes_further low high end (lexeme k x s ∷ u ∷ ts) stand ends =
    let rest = goes_further s.end high end (u ∷ ts) stand.2 ends in
    omega (arith, stand.0, stand.1, rest)

all_in_front : (o low high end : ℕ) (ts : List Lexeme) → end ≤ o → TokensStand low ts high → SemicolonEndsAt end ts → AllByRecursion (λ t. is_in_front o t ≡ true) ts
all_in_front o low high end [] le stand ends = tt
all_in_front o low high end (lexeme k x s ∷ []) le stand ends =
    (semicolon_in_front o (lexeme k x s) (ap ends_piece ends.0) (omega (arith, le, ends.1)), tt)
all_in_front o low high end (lexeme k x s ∷ u ∷ ts) le stand ends =
    let rest = goes_further s.end high end (u ∷ ts) stand.2 ends in
    (other_in_front o (lexeme k x s) (omega (arith, le, rest)), all_in_front o s.end high end (u ∷ ts) le stand.2 ends)

front_in_front : (ahead : List ℕ) (front : List Lexeme) (o : ℕ) → AreTokensOf ahead front → (ahead ≡ []) ⊎ EndsInSemicolon ahead front → length ahead ≤ o
    → AllByRecursion (λ t. is_in_front o t ≡ true) front
front_in_front ahead front o are (inl none) le = subst (AllByRecursion (λ t. is_in_front o t ≡ true)) (sym (no_tokens 0 ahead front none are)) tt
front_in_front ahead front o are (inr ends) le =
    let stand = text_stands ahead front are in
    all_in_front o 0 stand.0 (length ahead) front le stand.1 ends

-- those that stand behind a byte

abbrev From : ℕ → List Lexeme → Type 0
From low ts = AllByRecursion (λ t. low ≤ start_of t) ts

all_from : (low high : ℕ) (ts : List Lexeme) → TokensStand low ts high → From low ts
all_from low high [] stand = tt
all_from low high (lexeme k x s ∷ ts) stand =
    (stand.0, all_from low high ts (tokens_from_lower low s.end high ts (omega (arith, stand.0, stand.1)) stand.2))

stand_behind : (o low : ℕ) (ts : List Lexeme) → o < low → From low ts → AllByRecursion (λ t. is_behind o t ≡ true) ts
stand_behind o low [] lt from = tt
stand_behind o low (t ∷ ts) lt from = (other_behind o t (omega (arith, lt, from.0)), stand_behind o low ts lt from.1)

-- among others

first_from : (low high : ℕ) (ts us : List Lexeme) → TokensStand low (ts ++ us) high → From low ts
first_from low high [] us stand = tt
first_from low high (lexeme k x s ∷ ts) us stand =
    (stand.0, first_from low high ts us (tokens_from_lower low s.end high (ts ++ us) (omega (arith, stand.0, stand.1)) stand.2))

last_from : (low high : ℕ) (ts us : List Lexeme) → TokensStand low (ts ++ us) high → From low us
last_from low high [] us stand = all_from low high us stand
last_from low high (lexeme k x s ∷ ts) us stand =
    last_from low high ts us (tokens_from_lower low s.end high (ts ++ us) (omega (arith, stand.0, stand.1)) stand.2)

all_begin_behind : (o low : ℕ) (us : List Lexeme) → o < low → From low us → AllByRecursion (λ u. o < start_of u) us
all_begin_behind o low [] lt from = tt
all_begin_behind o low (u ∷ us) lt from = (omega (arith, lt, from.0), all_begin_behind o low us lt from.1)

first_before : (low high : ℕ) (ts us : List Lexeme) → TokensStand low (ts ++ us) high
    → AllByRecursion (λ t. AllByRecursion (λ u. start_of t < start_of u) us) ts
first_before low high [] us stand = tt
first_before low high (lexeme k x s ∷ ts) us stand =
    (all_begin_behind s.start s.end us stand.1 (last_from s.end high ts us stand.2), first_before s.end high ts us stand.2)

-- ---- the tokens behind those of a piece

record AreBehind (start : ℕ) (bytes : List ℕ) (tokens : List Lexeme) (o : ℕ) : Type 0 where
  behind : List Lexeme
  are : AreTokensFrom start bytes (tokens ++ behind)
  begin : BeginWithSemicolon behind
  all_behind : AllByRecursion (λ t. is_behind o t ≡ true) behind

-- the offset is in front of the end of the piece, where a semicolon ends it
piece_behind : (o start : ℕ) (piece rest : List ℕ) (tokens : List Lexeme) → IsUtf8 piece → ArePieceTokens start piece rest tokens
    → ((t : Lexeme) → AreTokensFrom start piece (tokens ++ t ∷ []) → is_semicolon t ≡ true → o < start + length piece) → AreBehind start (piece ++ rest) tokens o
piece_behind o start piece rest tokens is_piece (before_semicolon t are kind ends) inside =
    let end = start + length piece in
    let is : is_semicolon t ≡ true = ap ends_piece kind in
    let others = tokens_at end rest in
    let stand = tokens_stand_from end rest others (are_tokens_at end rest) in
    let joined = divided_from start piece rest (tokens ++ t ∷ []) others is_piece are (ends_append end tokens (t ∷ []) (kind, ends)) (are_tokens_at end rest) in
    let lt = inside t are is in
    record {
      behind = t ∷ others;
      are = subst (λ ts. AreTokensFrom start (piece ++ rest) ts) (append_assoc tokens (t ∷ []) others) joined;
      begin = is;
      all_behind = (
        semicolon_behind o t is (omega (arith, lt, ends, semicolon_ends start piece tokens [] t are kind)),
        stand_behind o end others lt (all_from end stand.0 others stand.1),
      );
    }
piece_behind o start piece rest tokens is_piece (at_end are none) inside = record {
  behind = [];
  are =
      subst (λ bytes. AreTokensFrom start (piece ++ bytes) (tokens ++ [])) (sym none)
      (subst (λ bytes. AreTokensFrom start bytes (tokens ++ [])) (sym (append-nil piece))
      (subst (λ ts. AreTokensFrom start piece ts) (sym (append-nil tokens)) are));
  begin = tt;
  all_behind = tt;
}

-- ---- the piece in its text

module _ (text : List ℕ) (offset : ℕ) (a : Analysis) (p : PieceAt) (tokens : List Lexeme) (commands : List CommandTree) (h : IsAnalysisOf text a)
    (here : IsPieceAround text offset a p) (are_tokens : AreTokensOf text tokens) (are_commands : AreCommandsOf (pieces_of tokens) commands) where
  abbrev Start : ℕ
  Start = here.around.front.end

  abbrev End : ℕ
  End = here.around.row.end

  abbrev Ahead : List ℕ
  Ahead = take Start text

  abbrev Piece : List ℕ
  Piece = slice_range text Start End

  abbrev Left : List ℕ
  Left = drop End text

  abbrev Own : List Lexeme
  Own = here.around.is_row.tokens

  abbrev Front : List Lexeme
  Front = here.around.is_row.piece.front

  abbrev Done : List CommandTree
  Done = here.around.front.commands

  starts : length Ahead ≡ Start
  starts = length-take-le Start text (omega (arith, here.around.is_row.forward, here.around.is_row.inside))

  ends : length Ahead + length Piece ≡ End
  ends = part_ends text Start End here.around.is_row.forward here.around.is_row.inside

  in_piece : (t : Lexeme) → AreTokensFrom (length Ahead) Piece (Own ++ t ∷ []) → is_semicolon t ≡ true → offset < length Ahead + length Piece
  in_piece t are is = by here.around.in_or_last
    where
      by : (offset < End) ⊎ (here.around.after ≡ []) → offset < length Ahead + length Piece
      by (inl lt) = omega (arith, lt, ends)
      by (inr last) = absurd (piece_not_ended text a offset p h here last (length Ahead) Own t are is)

  found : AreBehind (length Ahead) (Piece ++ Left) Own offset
  found = piece_behind offset (length Ahead) Piece Left Own here.around.is_row.piece.is_piece here.around.is_row.piece.are_own in_piece

  all_are : AreTokensOf text (Front ++ (Own ++ found.behind))
  all_are =
      subst (λ bytes. AreTokensOf bytes (Front ++ (Own ++ found.behind))) (sym here.around.is_row.piece.divides)
      (front_joined Ahead (Piece ++ Left) Front (Own ++ found.behind) here.around.is_row.piece.is_front here.around.is_row.piece.are_front
      here.around.is_row.piece.ends found.are)

  divides : tokens ≡ Front ++ (Own ++ found.behind)
  divides = one_list text (Front ++ (Own ++ found.behind)) tokens all_are are_tokens

  front_ended : EndInSemicolon Front
  front_ended = front_ends Ahead Front here.around.is_row.piece.are_front here.around.is_row.piece.ends

  stand : (high : ℕ) × TokensStand (length Ahead) (Own ++ found.behind) high
  stand = tokens_stand_from (length Ahead) (Piece ++ Left) (Own ++ found.behind) found.are

  at_start : p.start ≡ length Ahead
  at_start = here.around.starts ∙ sym starts

  -- ---- its commands

  spelled_ahead : AreSpelled text here.around.front here.around.before
  spelled_ahead = spelled_through text here.around.before here.around.front (types_in a.types) a.dialect h.is_text here.around.rows_before

  are_done : AreCommandsOf (pieces_of Front) Done
  are_done =
      subst (λ ts. AreCommandsOf (pieces_of ts) Done) (one_list Ahead Front spelled_ahead.tokens here.around.is_row.piece.are_front spelled_ahead.are_tokens)
      spelled_ahead.are_commands

  rest : (cs : List CommandTree) × AreCommandsOf (pieces_of found.behind) cs
  rest = some_commands (pieces_of found.behind)

  commands_are : commands ≡ Done ++ (here.around.own ++ rest.0)
  commands_are =
      commands_around Front Own found.behind commands Done here.around.own rest.0 front_ended here.around.is_row.piece.one_piece found.begin are_done
      here.around.is_row.is_own rest.1 (subst (λ ts. AreCommandsOf (pieces_of ts) commands) divides are_commands)

  replaced_by : (others : List Lexeme) (own : List CommandTree) → HaveNoSemicolon others → IsOwnOf others own
      → AreCommandsOf (pieces_of (Front ++ (others ++ found.behind))) (Done ++ (own ++ rest.0))
  replaced_by others own none is =
      subst (λ ps. AreCommandsOf ps (Done ++ (own ++ rest.0))) (sym (pieces_behind Front others found.behind front_ended none found.begin))
      (commands_joined (pieces_of Front) (with_piece others (pieces_of found.behind)) Done (own ++ rest.0) are_done
      (own_first others (pieces_of found.behind) own rest.0 is rest.1))

  -- ---- the words of its terms

  before_start : AllByRecursion (λ t. start_of t < p.start) Front
  before_start =
      begin_in_front Ahead Front p.start here.around.is_row.piece.are_front here.around.is_row.piece.ends (omega (arith, at_start))

  no_variable : (t : Lexeme) → here.around.own ≡ [] → p.start ≤ start_of t → AllByRecursion (λ u. start_of t < start_of u) found.behind
      → variable_at (start_of t) commands ≡ None
  no_variable t none inside behind =
      ap (variable_at (start_of t)) (commands_are ∙ ap (λ own. Done ++ (own ++ rest.0)) none)
      ∙ no_variable_among p.start Front found.behind Done rest.0 before_start are_done rest.1 t inside behind

  pub piece_in_text : IsInText here tokens commands
  piece_in_text = record {
    before = Front;
    after = found.behind;
    divides = divides;
    ends = front_ended;
    begins = found.begin;
    in_front =
        front_in_front Ahead Front offset here.around.is_row.piece.are_front here.around.is_row.piece.ends here.around.is_there.from_its_start;
    behind = found.all_behind;
    rest = rest.0;
    are = commands_are;
    replaced = replaced_by;
    variable_there = λ t c others none is inside behind.
        variable_among p.start Front found.behind Done rest.0 before_start are_done rest.1 t inside behind c;
    projection_there = λ t c others none is inside behind.
        projection_among p.start Front found.behind Done rest.0 before_start are_done rest.1 t inside behind c;
    no_variable_there = no_variable;
    no_projection_there = λ t inside behind.
        no_projection_among p.start Front found.behind Done rest.0 before_start are_done rest.1 t inside behind;
    own_before = first_before (length Ahead) stand.0 Own found.behind stand.1;
    own_inside = subst (λ low. From low Own) (sym at_start) (first_from (length Ahead) stand.0 Own found.behind stand.1);
  }
