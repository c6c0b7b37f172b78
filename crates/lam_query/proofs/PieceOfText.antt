-- A piece of a text by itself: the text's tokens are those in front of it, its own and those behind it, and only its own command has a
-- place at a byte of it.
use Rattle.std.proofs.Common.{◌≡◌, ◌⊎◌, ℕ, ◌+◌, ◌<◌, ◌≤◌, List, [], ◌∷◌, ◌++◌, append-nil, append_assoc, length, None, refl, sym, ap, subst, inl, inr}
use Rattle.std.specs.Str.{IsUtf8}
use Rattle.std.proofs.lemmas.Str.{chars-nil}
use Rattle.lam_token.specs.Lexeme.{Lexeme}
use Rattle.lam_token.specs.Cut.{AreTokensFrom, AreTokensOf}
use Rattle.lam_token.specs.Divided.{SemicolonEndsAt, EndsInSemicolon}
use Rattle.lam_token.proofs.Cuts.{one_list, one_list_from}
use Rattle.lam_token.proofs.Divided.{divided, divided_from, ends_append}
use Rattle.lam_token.proofs.SomeCut.{tokens_at, are_tokens_at}
use Rattle.lam_syntax.specs.Trees.{CommandTree}
use Rattle.lam_syntax.specs.Answers.{ends_piece, pieces_of}
use Rattle.lam_scope.specs.Tables.{table, place_at}
use Rattle.lam_query.specs.Commands.{AreCommandsOf, AreCommandsOfText}
use Rattle.lam_query.specs.inner.OnePiece.{EndInSemicolon, BeginWithSemicolon, IsOwnOf, ArePieceTokens, before_semicolon, at_end, IsPieceOf, IsOffsetIn}
use Rattle.lam_query.proofs.DividedPieces.{semicolon_passed, commands_around}
use Rattle.lam_query.proofs.Elsewhere.{EndsBy, BeginsBehind, nowhere_behind, nowhere_in_front, all_begin, all_end}
use Rattle.lam_query.proofs.Innermost.{text_stands, tokens_stand_from}
use Rattle.lam_query.proofs.PieceLaws.{some_commands}
use Rattle.lam_query.proofs.Spans.{InTokens}

-- ---- no text has no tokens

pub empty_text : (start : ℕ) → AreTokensFrom start [] []
empty_text start = record { parts = []; cut = chars-nil; tokens_are = refl }

pub no_tokens : (start : ℕ) (text : List ℕ) (tokens : List Lexeme) → text ≡ [] → AreTokensFrom start text tokens → tokens ≡ []
no_tokens start text tokens none are =
    one_list_from start [] [] tokens (empty_text start) (subst (λ bytes. AreTokensFrom start bytes tokens) none are)

-- ---- in front

ends_piece_at : (end : ℕ) (tokens : List Lexeme) → SemicolonEndsAt end tokens → EndInSemicolon tokens
ends_piece_at end [] ends = tt
ends_piece_at end (t ∷ []) ends = ap ends_piece ends.0
ends_piece_at end (t ∷ u ∷ ts) ends = ends_piece_at end (u ∷ ts) ends

pub front_ends : (ahead : List ℕ) (front : List Lexeme) → AreTokensOf ahead front → (ahead ≡ []) ⊎ EndsInSemicolon ahead front
    → EndInSemicolon front
front_ends ahead front are (inl none) = subst EndInSemicolon (sym (no_tokens 0 ahead front none are)) tt
front_ends ahead front are (inr ends) = ends_piece_at (length ahead) front ends

front_before : (ahead : List ℕ) (front : List Lexeme) (o : ℕ) → AreTokensOf ahead front → (ahead ≡ []) ⊎ EndsInSemicolon ahead front
    → length ahead ≤ o → InTokens (EndsBy o) front
front_before ahead front o are (inl none) le = subst (InTokens (EndsBy o)) (sym (no_tokens 0 ahead front none are)) tt
front_before ahead front o are (inr ends) le =
    let stand = text_stands ahead front are in
    all_end o 0 stand.0 (length ahead) front le stand.1 ends

pub front_joined : (ahead more : List ℕ) (front others : List Lexeme) → IsUtf8 ahead → AreTokensOf ahead front
    → (ahead ≡ []) ⊎ EndsInSemicolon ahead front → AreTokensFrom (length ahead) more others → AreTokensOf (ahead ++ more) (front ++ others)
front_joined [] more front others is_text are ends are_others =
    subst (λ ts. AreTokensOf more (ts ++ others)) (sym (no_tokens 0 [] front refl are)) are_others
front_joined (b ∷ ahead) more front others is_text are (inl none) are_others = absurd cc
front_joined (b ∷ ahead) more front others is_text are (inr ends) are_others =
    divided (b ∷ ahead) more front others is_text are ends are_others

-- ---- behind

-- The tokens behind those of a piece, from its semicolon on; their pieces are those of tokens that all begin behind the byte.
record AreBehind (start : ℕ) (bytes : List ℕ) (tokens : List Lexeme) (o : ℕ) : Type 0 where
  behind : List Lexeme
  are : AreTokensFrom start bytes (tokens ++ behind)
  begin : BeginWithSemicolon behind
  others : List Lexeme
  same : pieces_of behind ≡ pieces_of others
  begin_behind : InTokens (BeginsBehind o) others

rest_behind : (o start : ℕ) (rest : List ℕ) → (o < start) ⊎ (rest ≡ []) → InTokens (BeginsBehind o) (tokens_at start rest)
rest_behind o start rest (inl lt) =
    let stand = tokens_stand_from start rest (tokens_at start rest) (are_tokens_at start rest) in
    all_begin o start stand.0 (tokens_at start rest) lt stand.1
rest_behind o start rest (inr none) =
    subst (InTokens (BeginsBehind o)) (sym (no_tokens start rest (tokens_at start rest) none (are_tokens_at start rest))) tt

piece_behind : (o start : ℕ) (piece rest : List ℕ) (tokens : List Lexeme) → IsUtf8 piece → (o < start + length piece) ⊎ (rest ≡ [])
    → ArePieceTokens start piece rest tokens → AreBehind start (piece ++ rest) tokens o
piece_behind o start piece rest tokens is_piece inside (before_semicolon t are kind ends) =
    let end = start + length piece in
    let others = tokens_at end rest in
    let joined = divided_from start piece rest (tokens ++ t ∷ []) others is_piece are (ends_append end tokens (t ∷ []) (kind, ends))
    (are_tokens_at end rest) in
    record {
      behind = t ∷ others;
      are = subst (λ ts. AreTokensFrom start (piece ++ rest) ts) (append_assoc tokens (t ∷ []) others) joined;
      begin = ap ends_piece kind;
      others = others;
      same = semicolon_passed t others (ap ends_piece kind);
      begin_behind = rest_behind o end rest inside;
    }
piece_behind o start piece rest tokens is_piece inside (at_end are none) = record {
  behind = [];
  are =
      subst (λ bytes. AreTokensFrom start (piece ++ bytes) (tokens ++ [])) (sym none)
      (subst (λ bytes. AreTokensFrom start bytes (tokens ++ [])) (sym (append-nil piece))
      (subst (λ ts. AreTokensFrom start piece ts) (sym (append-nil tokens)) are));
  begin = tt;
  others = [];
  same = refl;
  begin_behind = tt;
}

-- ---- the commands of the text

tokens_are : (text : List ℕ) (tokens : List Lexeme) (commands : List CommandTree)
    → AreTokensOf text tokens → AreCommandsOfText text commands → AreCommandsOf (pieces_of tokens) commands
tokens_are text tokens commands are of =
    subst (λ ts. AreCommandsOf (pieces_of ts) commands) (one_list text tokens of.tokens are of.are_tokens) of.are_commands

-- where they end with the piece
ends_with : (start : ℕ) (piece rest : List ℕ) (tokens : List Lexeme) → ArePieceTokens start piece rest tokens
    → (behind : List Lexeme) × AreTokensFrom start piece (tokens ++ behind) × BeginWithSemicolon behind × (pieces_of behind ≡ [])
ends_with start piece rest tokens (before_semicolon t are kind ends) =
    (t ∷ [], are, ap ends_piece kind, semicolon_passed t [] (ap ends_piece kind))
ends_with start piece rest tokens (at_end are none) =
    ([], subst (λ ts. AreTokensFrom start piece ts) (sym (append-nil tokens)) are, tt, refl)

-- Those of the whole text are those in front of the piece, its own and those behind it; at a byte of the piece neither the first nor the
-- last have a place.
pub commands_of_piece : (text ahead piece rest : List ℕ) (tokens : List Lexeme) (commands before own : List CommandTree) (o : ℕ)
    → IsPieceOf text ahead piece rest tokens → AreCommandsOfText text commands → AreCommandsOfText ahead before → IsOwnOf tokens own
    → IsOffsetIn o ahead piece rest
    → (after : List CommandTree) × (commands ≡ before ++ (own ++ after))
    × (place_at (table before) o ≡ None) × (place_at (table after) o ≡ None)
commands_of_piece text ahead piece rest tokens commands before own o is are are_before is_own inside =
    let found = piece_behind o (length ahead) piece rest tokens is.is_piece inside.to_its_end is.are_own in
    let whole = front_joined ahead (piece ++ rest) is.front (tokens ++ found.behind) is.is_front is.are_front is.ends found.are in
    let are_tokens = subst (λ bytes. AreTokensOf bytes (is.front ++ (tokens ++ found.behind))) (sym is.divides) whole in
    let here = tokens_are text (is.front ++ (tokens ++ found.behind)) commands are_tokens are in
    let first = tokens_are ahead is.front before is.are_front are_before in
    let last = some_commands (pieces_of found.behind) in (
      last.0,
      commands_around is.front tokens found.behind commands before own last.0 (front_ends ahead is.front is.are_front is.ends)
          is.one_piece found.begin first is_own last.1 here,
      nowhere_behind o is.front before (front_before ahead is.front o is.are_front is.ends inside.from_its_start) first,
      nowhere_in_front o found.others last.0 found.begin_behind (subst (λ ps. AreCommandsOf ps last.0) found.same last.1),
    )
