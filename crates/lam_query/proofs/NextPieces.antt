-- The next piece of a text that is left: up to its first semicolon, or all of it.
use Rattle.std.proofs.Common.{◌≡◌, ◌≤◌, ◌<◌, ℕ, true, false, List, [], ◌∷◌, ◌++◌, length, take, drop, take-append-drop, append-nil, refl, sym, ap, subst, ◌∙◌, arith}
use Rattle.std.specs.Str.{IsUtf8}
use Rattle.std.proofs.lemmas.List.{length-take-le}
use Rattle.lam_token.specs.declared.kind.Kind.{Kind}
use Rattle.lam_token.specs.declared.kind.Kind.TheVariants as kind
use Rattle.lam_token.specs.Lexeme.{Lexeme, kind_of, end_of}
use Rattle.lam_token.specs.Cut.{AreTokensOf}
use Rattle.lam_token.proofs.Cuts.{one_list}
use Rattle.lam_token.proofs.Divided.{divided_after}
use Rattle.lam_token.proofs.SomeCut.{tokens_at, are_tokens_at}
use Rattle.lam_syntax.specs.Answers.{ends_piece, is_semicolon}
use Rattle.lam_query.specs.declared.reading.PieceEnd.{PieceEnd}
use Rattle.lam_query.specs.inner.OnePiece.{HaveNoSemicolon}
use Rattle.lam_query.specs.inner.PieceRows.{IsEnded, before_semicolon, alone}
use Rattle.lam_query.specs.inner.Reading.{IsNextPiece}
use Rattle.lam_query.proofs.OneCommand.{none_within}
use Rattle.lam_query.proofs.PieceOfText.{no_tokens}

-- ---- where it ends

semicolon : (k : Kind) → ends_piece k ≡ true → k ≡ kind.Semicolon
semicolon kind.Semicolon is = refl
semicolon k is = search

-- before a semicolon
pub next_ended : (text : List ℕ) (found behind : List Lexeme) (t : Lexeme) (end : PieceEnd) → IsUtf8 text → is_semicolon t ≡ true
    → tokens_at 0 text ≡ found ++ t ∷ behind → end_of t ≤ length text → end.bytes ≡ end_of t → end.semicolon ≡ true → IsNextPiece text end found
next_ended text found behind t end is_text ends all inside bytes more =
    let is = semicolon (kind_of t) ends in
    let divides = divided_after text found t behind is_text (subst (AreTokensOf text) all (are_tokens_at 0 text)) is in
    let counted : end_of t ≡ length (take (end_of t) text) = sym (length-take-le (end_of t) text inside) in
    record {
      piece = take (end_of t) text;
      behind = drop (end_of t) text;
      divides = sym (take-append-drop (end_of t) text);
      counted = bytes ∙ counted;
      is_text = divides.is_front;
      are = before_semicolon t divides.are_front is counted;
      ended = λ more. record { tokens = found; semicolon = t; are = divides.are_front; kind = is; ends = counted };
      last = λ none. let clash : true ≡ false = sym more ∙ none in absurd cc;
    }

-- no semicolon ends a piece that has none
pub not_ended : (piece : List ℕ) (tokens : List Lexeme) → AreTokensOf piece tokens → HaveNoSemicolon tokens → IsEnded piece → ⊥
not_ended piece tokens are none is =
    let same : tokens ≡ is.tokens ++ is.semicolon ∷ [] = one_list piece (is.tokens ++ is.semicolon ∷ []) tokens is.are are in
    none_within is.tokens [] is.semicolon (subst HaveNoSemicolon same none) (ap ends_piece is.kind)

-- with the text
pub next_last : (text : List ℕ) (found : List Lexeme) (end : PieceEnd) → IsUtf8 text → HaveNoSemicolon found → tokens_at 0 text ≡ found → end.bytes ≡ length text
    → end.semicolon ≡ false → IsNextPiece text end found
next_last text found end is_text none_found all bytes last =
    let are = subst (AreTokensOf text) all (are_tokens_at 0 text) in
    record {
      piece = text;
      behind = [];
      divides = sym (append-nil text);
      counted = bytes;
      is_text = is_text;
      are = alone are;
      ended = λ more. let clash : true ≡ false = sym more ∙ last in absurd cc;
      last = λ none. (refl, not_ended text found are none_found);
    }

-- ---- it has a byte at least, where a semicolon ends it

some_token : (ts : List Lexeme) (t : Lexeme) → ts ++ t ∷ [] ≡ [] → ⊥
some_token [] t none = absurd cc
some_token (u ∷ ts) t none = absurd cc

pub some_bytes : (piece : List ℕ) → IsEnded piece → 0 < length piece
some_bytes [] is = absurd (some_token is.tokens is.semicolon (no_tokens 0 [] (is.tokens ++ is.semicolon ∷ []) refl is.are))
some_bytes (b ∷ piece) is = omega arith
