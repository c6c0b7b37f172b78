-- The tokens of a text stand one behind the other, and so do those of its commands: of the terms that have a byte, the one that is shown is within all.
use Rattle.std.proofs.Common.{◌≡◌, ℕ, ◌+◌, ◌<◌, ◌≤◌, List, [], ◌∷◌, Bool, true, false, cond, Some, length, get_or, arith, sym, ap, ◌∙◌, subst, inl, inr}
use Rattle.std.proofs.lemmas.List.{get_or_default}
use Rattle.std.proofs.lemmas.Str.{length-le-encodes}
use Rattle.std.specs.Prelude.{filter, encode_utf8_all}
use Rattle.std.specs.Str.{chars}
use Rattle.lam_token.specs.declared.kind.Kind.{Kind}
use Rattle.lam_token.specs.declared.segment.Segment.{Segment}
use Rattle.lam_token.specs.declared.segment.Segment.TheVariants.{Blank, Comment, Token}
use Rattle.lam_token.specs.declared.span.Span.{Span}
use Rattle.lam_token.specs.Lexeme.{Lexeme, lexeme}
use Rattle.lam_token.specs.Cut.{Part, IsCut, with_token, tokens_of, AreTokensFrom, AreTokensOf}
use Rattle.lam_token.proofs.Cuts.{some_characters}
use Rattle.lam_syntax.specs.Trees.{CommandTree}
use Rattle.lam_syntax.specs.Answers.{is_semicolon, onto_first, runs_of, has_tokens, pieces_of}
use Rattle.lam_scope.specs.Tables.{table, is_over, place_row_numbered}
use Rattle.lam_scope.specs.Nesting.{TokensStand, AreSpelledFrom, IsWithin}
use Rattle.lam_scope.specs.PlacedTerms.{PlacedTree, term_of, document_terms, tree_in}
use Rattle.lam_scope.proofs.PlacedRows.{row_told}
use Rattle.lam_query.specs.Hovers.{has_byte, innermost_at}
use Rattle.lam_query.specs.Innermost.{IsInnermost}
use Rattle.lam_query.proofs.RowsAndTerms.{span_told, same_byte, innermost_number}
use Rattle.lam_scope.proofs.NestedRows.{spelled_nest, first_is_innermost}
use Rattle.lam_scope.proofs.SpelledTerms.{tokens_go_on}
use Rattle.lam_query.specs.Commands.{AreCommandsOf, AreCommandsOfText}

-- tokens

pub tokens_from_lower : (low next high : ℕ) (ts : List Lexeme) → low ≤ next → TokensStand next ts high → TokensStand low ts high
tokens_from_lower low next high [] le h = omega (arith, le, h)
tokens_from_lower low next high (lexeme k x s ∷ ts) le h = (omega (arith, le, h.0), h.1, h.2)

-- the tokens of segments stand behind the byte at which the segments begin

with_token_stands : (s : Segment) (bytes : List ℕ) (start high : ℕ) (ts : List Lexeme) → 0 < length bytes → TokensStand (start + length bytes) ts high → TokensStand start (with_token s bytes start ts) high
with_token_stands Blank bytes start high ts some h = tokens_from_lower start (start + length bytes) high ts (omega arith) h
with_token_stands Comment bytes start high ts some h = tokens_from_lower start (start + length bytes) high ts (omega arith) h
with_token_stands (Token kind) bytes start high ts some h = (omega arith, omega arith, h)

parts_stand : (start : ℕ) (left : List ℕ) (ps : List Part) → IsCut left ps → (high : ℕ) × TokensStand start (tokens_of start ps) high
parts_stand start left [] cut = (start, omega arith)
parts_stand start left (p ∷ ps) cut =
    let bytes = encode_utf8_all p.characters in
    let some : 0 < length bytes = omega (arith, some_characters p.sort p.characters cut.0 cut.2, length-le-encodes p.characters) in
    let rest = parts_stand (start + length bytes) cut.0 ps cut.3 in
    (rest.0, with_token_stands p.sort bytes start rest.0 (tokens_of (start + length bytes) ps) some rest.1)

pub tokens_stand_from : (start : ℕ) (text : List ℕ) (ts : List Lexeme) → AreTokensFrom start text ts → (high : ℕ) × TokensStand start ts high
tokens_stand_from start text ts are = subst (λ us. (high : ℕ) × TokensStand start us high) (sym are.tokens_are) (parts_stand start (chars text) are.parts are.cut)

pub text_stands : (text : List ℕ) (ts : List Lexeme) → AreTokensOf text ts → (high : ℕ) × TokensStand 0 ts high
text_stands text ts are = tokens_stand_from 0 text ts are

-- pieces, those of each behind those of the pieces before it

abbrev PiecesStand : (low : ℕ) → List (List Lexeme) → Type 0
PiecesStand low [] = Unit {0}
PiecesStand low (p ∷ ps) = (high : ℕ) × TokensStand low p high × PiecesStand high ps

pieces_from_lower : (low next : ℕ) (ps : List (List Lexeme)) → low ≤ next → PiecesStand next ps → PiecesStand low ps
pieces_from_lower low next [] le h = tt
pieces_from_lower low next (p ∷ ps) le h = (h.0, tokens_from_lower low next h.0 p le h.1, h.2)

one_of : (low : ℕ) (b : Bool) (ps qs : List (List Lexeme)) → PiecesStand low ps → PiecesStand low qs → PiecesStand low (cond b ps qs)
one_of low true ps qs h k = h
one_of low false ps qs h k = k

onto_stands : (low : ℕ) (k : Kind) (x : List ℕ) (s : Span) (runs : List (List Lexeme)) → low ≤ s.start → s.start < s.end → PiecesStand s.end runs → PiecesStand low (onto_first (lexeme k x s) runs)
onto_stands low k x s [] first own h = (s.end, (first, own, omega arith), tt)
onto_stands low k x s (run ∷ runs) first own h = (h.0, (first, own, h.1), h.2)

runs_stand : (low high : ℕ) (ts : List Lexeme) → TokensStand low ts high → PiecesStand low (runs_of ts)
runs_stand low high [] h = (low, omega arith, tt)
runs_stand low high (lexeme k x s ∷ ts) h =
    let rest = runs_stand s.end high ts h.2 in
    one_of low (is_semicolon (lexeme k x s)) ([] ∷ runs_of ts) (onto_first (lexeme k x s) (runs_of ts)) (s.end, omega (arith, h.0, h.1), rest) (onto_stands low k x s (runs_of ts) h.0 h.1 rest)

kept_stand : (low : ℕ) (runs : List (List Lexeme)) → PiecesStand low runs → PiecesStand low (filter has_tokens runs)
kept_stand low [] h = tt
kept_stand low (run ∷ runs) h =
    let rest = kept_stand h.0 runs h.2 in
    one_of low (has_tokens run) (run ∷ filter has_tokens runs) (filter has_tokens runs) (h.0, h.1, rest) (pieces_from_lower low h.0 (filter has_tokens runs) (tokens_go_on low h.0 run h.1) rest)

pieces_stand : (low high : ℕ) (ts : List Lexeme) → TokensStand low ts high → PiecesStand low (pieces_of ts)
pieces_stand low high ts h = kept_stand low (runs_of ts) (runs_stand low high ts h)

-- commands: a piece that is none is passed over

commands_spelled : (low : ℕ) (ps : List (List Lexeme)) (cs : List CommandTree) → PiecesStand low ps → AreCommandsOf ps cs → AreSpelledFrom low cs
commands_spelled low [] cs h are = rw are tt
commands_spelled low (p ∷ ps) cs h (inl are) = rw are.2 (p, h.0, are.3.spelled, h.1, commands_spelled h.0 ps are.1 h.2 are.4)
commands_spelled low (p ∷ ps) cs h (inr are) = commands_spelled low ps cs (pieces_from_lower low h.0 ps (tokens_go_on low h.0 p h.1) h.2) are.1

pub text_spelled : (text : List ℕ) (cs : List CommandTree) → AreCommandsOfText text cs → AreSpelledFrom 0 cs
text_spelled text cs are =
    let stand = text_stands text are.tokens are.are_tokens in
    commands_spelled 0 (pieces_of are.tokens) cs (pieces_stand 0 stand.0 are.tokens stand.1) are.are_commands

pub innermost_shown : (text : List ℕ) (cs : List CommandTree) (o : ℕ) (term : PlacedTree) → AreCommandsOfText text cs → innermost_at o (document_terms cs) ≡ Some term → IsInnermost o (document_terms cs) term
innermost_shown text cs o term are found = λ k default lt has.
    let all = document_terms cs in
    let here = innermost_number cs o term found in
    let other = get_or_default all k default (tree_in [] 0) lt in
    let row = place_row_numbered (table cs) k in
    let over : is_over o row ≡ true = same_byte (table cs) all o row (tree_in all k) (row_told cs k) ∙ ap (λ t. has_byte o (term_of t)) (sym other) ∙ has in
    let within = first_is_innermost (table cs) o here.0 (spelled_nest cs (text_spelled text cs are)) here.1 k over in
    let inner : (place_row_numbered (table cs) here.0).span ≡ (term_of term).span = span_told cs here.0 ∙ ap (λ t. (term_of t).span) here.2 in
    let outer : row.span ≡ (term_of (get_or all k default)).span = span_told cs k ∙ ap (λ t. (term_of t).span) (sym other) in
    subst (λ s. IsWithin (term_of term).span s) outer (subst (λ s. IsWithin s row.span) inner within)
