-- The rows of pieces, placed in the text that the pieces make up: each is right at the byte where its piece begins.
use Rattle.std.proofs.Common.{◌≡◌, ◌⊎◌, ℕ, ◌+◌, List, [], ◌∷◌, ◌++◌, append_assoc, length, take, drop, slice_range, map, Option, Some, None, refl, sym, ap, subst, ◌∙◌, inl, inr, arith}
use Rattle.std.specs.List.{All}
use Rattle.std.specs.Option.{option_map}
use Rattle.std.specs.Str.{IsUtf8}
use Rattle.std.proofs.lemmas.List.{length-append, map-append, take_at, drop_at}
use Rattle.std.proofs.lemmas.List.Elements.{All-head, All-tail}
use Rattle.std.proofs.lemmas.Slice.{between_is}
use Rattle.std.proofs.lemmas.Str.{IsUtf8-nil, IsUtf8-append}
use Rattle.lam_token.specs.Cut.{AreTokensFrom, AreTokensOf}
use Rattle.lam_token.specs.Divided.{SemicolonEndsAt, EndsInSemicolon}
use Rattle.lam_token.specs.Lexeme.{Lexeme, lexeme, kind_of, end_of}
use Rattle.lam_token.specs.MovedTokens.{moved_by}
use Rattle.lam_token.proofs.Divided.{ends_append}
use Rattle.lam_token.proofs.MovedTokens.{moved_further, ends_moved}
use Rattle.lam_rules.specs.Types.{Typ}
use Rattle.lam_rules.specs.declared.rules.Dialect.{Dialect}
use Rattle.lam_syntax.specs.Trees.{CommandTree}
use Rattle.lam_typing.specs.Answers.{answer}
use Rattle.lam_typing.specs.Checking.{types_in, dialect_in}
use Rattle.lam_query.specs.declared.analyses.Analysis.{Analysis}
use Rattle.lam_query.specs.declared.analyses.Analyst.{Analyst}
use Rattle.lam_query.specs.declared.bound.Bound.{Bound}
use Rattle.lam_query.specs.Analyses.{IsAnalysisOf}
use Rattle.lam_query.specs.inner.Analysts.{IsReadThrough}
use Rattle.lam_query.specs.inner.Entered.{Lookup}
use Rattle.lam_query.specs.inner.Kept.{Found, written_too_large, term_too_large, typed, CommandRow, Row, rows_of, bound_by, command_after, found_after, command_row_after, row_after, placed}
use Rattle.lam_query.specs.inner.OnePiece.{HaveNoSemicolon, ArePieceTokens, before_semicolon, at_end, IsPieceOf}
use Rattle.lam_query.specs.inner.PieceRows.{Sight, outset, sight_with, IsEnded, AreTokensIn, alone, IsPieceRow, AreRows, joined}
use Rattle.lam_query.specs.inner.PieceRows.{before_semicolon as with_semicolon}
use Rattle.lam_query.specs.inner.Pieces.{IsPieceBetween}
use Rattle.lam_query.specs.inner.Rows.{with_entry, Front, nothing, names_with, types_with, front_with, IsKeptOf, IsRow, AreRowsFrom}
use Rattle.lam_query.proofs.CommandsAfter.{own_after, syntax_after, found_after_is, name_bound_after, type_name_bound_after}
use Rattle.lam_query.proofs.NextPieces.{not_ended}
use Rattle.lam_query.proofs.PieceOfText.{empty_text, front_joined}

-- ---- tokens further on

kind_moved : (n : ℕ) (t : Lexeme) → kind_of (moved_by n t) ≡ kind_of t
kind_moved n (lexeme k x s) = refl

end_moved : (n : ℕ) (t : Lexeme) → end_of (moved_by n t) ≡ end_of t + n
end_moved n (lexeme k x s) = refl

pub none_moved : (n : ℕ) (ts : List Lexeme) → HaveNoSemicolon ts → HaveNoSemicolon (map (moved_by n) ts)
none_moved n [] none = tt
none_moved n (lexeme k x s ∷ ts) none = (none.0, none_moved n ts none.1)

-- those of a piece that a semicolon ends, or behind which nothing is left
own_tokens : (n : ℕ) (piece rest : List ℕ) (tokens : List Lexeme) → IsEnded piece ⊎ (rest ≡ []) → HaveNoSemicolon tokens → AreTokensIn piece tokens
    → ArePieceTokens n piece rest (map (moved_by n) tokens)
own_tokens n piece rest tokens last none (with_semicolon t are kind ends) =
    before_semicolon (moved_by n t)
    (subst (AreTokensFrom n piece) (map-append (moved_by n) tokens (t ∷ [])) (moved_further n piece (tokens ++ t ∷ []) are))
    (kind_moved n t ∙ kind) (omega (arith, end_moved n t, ends))
own_tokens n piece rest tokens (inl ended) none (alone are) = absurd (not_ended piece tokens are none ended)
own_tokens n piece rest tokens (inr is_end) none (alone are) = at_end (moved_further n piece tokens are) is_end

-- ---- what stands in front of a piece

-- a text that is empty, or ends with a semicolon
record IsAhead (ahead : List ℕ) (front : List Lexeme) : Type 0 where
  is_text : IsUtf8 ahead
  are : AreTokensOf ahead front
  ends : (ahead ≡ []) ⊎ EndsInSemicolon ahead front

none_ahead : IsAhead [] []
none_ahead = record { is_text = IsUtf8-nil; are = empty_text 0; ends = inl refl }

-- so it is with one more piece that is ended
ahead_more : (ahead piece : List ℕ) (front : List Lexeme) → IsAhead ahead front → IsEnded piece → IsUtf8 piece
    → (more : List Lexeme) × IsAhead (ahead ++ piece) more
ahead_more ahead piece front is ended is_piece =
    let n = length ahead in
    let own = ended.tokens ++ ended.semicolon ∷ [] in
    let moved = map (moved_by n) own in
    let own_ends : SemicolonEndsAt (length piece) own = ends_append (length piece) ended.tokens (ended.semicolon ∷ []) (ended.kind, ended.ends) in
    let end : length piece + n ≡ length (ahead ++ piece) = omega (arith, length-append ahead piece) in (
      front ++ moved,
      record {
        is_text = IsUtf8-append ahead piece is.is_text is_piece;
        are = front_joined ahead piece front moved is.is_text is.are is.ends (moved_further n piece own ended.are);
        ends = inr (ends_append (length (ahead ++ piece)) front moved (subst (λ m. SemicolonEndsAt m moved) end (ends_moved n (length piece) own own_ends)));
      },
    )

-- ---- what names mean behind a command

pub bound_after : (n : ℕ) (f : Found) → bound_by (found_after n f) ≡ bound_by f
bound_after n (written_too_large s) = refl
bound_after n (term_too_large s) = refl
bound_after n (typed t) = refl

names_after : (n : ℕ) (own : List CommandTree) (ts : List Typ) (o : Option CommandRow) (names : Lookup)
    → names_with (map (command_after n) own) ts (option_map (command_row_after n) o) names ≡ names_with own ts o names
names_after n [] ts None names = refl
names_after n [] ts (Some k) names = refl
names_after n (c ∷ []) ts None names = refl
names_after n (c ∷ []) ts (Some k) names = λ i. with_entry (name_bound_after n c i) (answer ts (bound_after n k.found i)) names
names_after n (c ∷ e ∷ own) ts None names = refl
names_after n (c ∷ e ∷ own) ts (Some k) names = refl

types_after : (n : ℕ) (own : List CommandTree) (ts : List Typ) (o : Option CommandRow) (types : Lookup)
    → types_with (map (command_after n) own) ts (option_map (command_row_after n) o) types ≡ types_with own ts o types
types_after n [] ts None types = refl
types_after n [] ts (Some k) types = refl
types_after n (c ∷ []) ts None types = refl
types_after n (c ∷ []) ts (Some k) types = λ i. with_entry (type_name_bound_after n c i) (answer ts (bound_after n k.found i)) types
types_after n (c ∷ e ∷ own) ts None types = refl
types_after n (c ∷ e ∷ own) ts (Some k) types = refl

kept_after : (n : ℕ) (names types : Lookup) (own : List CommandTree) (ts : List Typ) (o : Option CommandRow) (d : Dialect)
    → IsKeptOf names types own ts o d → IsKeptOf names types (map (command_after n) own) ts (option_map (command_row_after n) o) d
kept_after n names types [] ts None d is = tt
kept_after n names types [] ts (Some k) d is = absurd is
kept_after n names types (c ∷ []) ts None d is = absurd is
kept_after n names types (c ∷ []) ts (Some k) d is = found_after_is n names types c ts k.found d is
kept_after n names types (c ∷ e ∷ own) ts None d is = absurd is
kept_after n names types (c ∷ e ∷ own) ts (Some k) d is = absurd is

-- ---- one piece

-- a part of a text by its first byte and the one behind it
between_bytes : (text ahead piece rest : List ℕ) (start end : ℕ) (tokens : List Lexeme) → text ≡ ahead ++ (piece ++ rest) → start ≡ length ahead
    → end ≡ length (ahead ++ piece) → IsPieceOf text ahead piece rest tokens → IsPieceBetween text start end tokens
between_bytes text ahead piece rest start end tokens divides at to is =
    let through = divides ∙ sym (append_assoc ahead piece rest) in
    let both : take end text ≡ ahead ++ piece = ap (take end) through ∙ take_at (ahead ++ piece) rest end (sym to) in
    let first : ahead ≡ take start text = sym (ap (take start) divides ∙ take_at ahead (piece ++ rest) start (sym at)) in
    let second : piece ≡ slice_range text start end = sym (between_is text start end ∙ ap (drop start) both ∙ drop_at ahead piece start (sym at)) in
    let third : rest ≡ drop end text = sym (ap (drop end) through ∙ drop_at (ahead ++ piece) rest end (sym to)) in
    subst (λ a. IsPieceOf text a (slice_range text start end) (drop end text) tokens) first
    (subst (λ p. IsPieceOf text ahead p (drop end text) tokens) second (subst (λ q. IsPieceOf text ahead piece q tokens) third is))

-- names mean the same
record MeansSame (f : Front) (s : Sight) : Type 0 where
  names : f.names ≡ s.names
  types : f.types ≡ s.types

module _ (text : List ℕ) (ts : List Typ) (b : Bound) (d : Dialect) where
  -- the row of a piece at its place in the text
  row_there : (ahead piece rest : List ℕ) (front : List Lexeme) (f : Front) (s : Sight) (own : List CommandTree) (r : Row) → text ≡ ahead ++ (piece ++ rest)
      → IsAhead ahead front → f.end ≡ length ahead → MeansSame f s → IsEnded piece ⊎ (rest ≡ []) → IsPieceRow piece s own r ts b d
      → IsRow text f (map (command_after f.end) own) (row_after f.end r) ts d
  row_there ahead piece rest front f s own r divides ahead_is at same last is =
      let n = f.end in
      let tokens = map (moved_by n) is.tokens in
      record {
        forward = omega arith;
        inside = omega (arith, is.counted, at, ap length divides, length-append ahead (piece ++ rest), length-append piece rest);
        tokens = tokens;
        piece = between_bytes text ahead piece rest n (r.end + n) tokens divides at (omega (arith, is.counted, at, length-append ahead piece)) (record {
          divides = divides;
          is_front = ahead_is.is_text;
          is_piece = is.is_text;
          front = front;
          are_front = ahead_is.are;
          ends = ahead_is.ends;
          are_own = subst (λ m. ArePieceTokens m piece rest tokens) at (own_tokens n piece rest is.tokens last is.one_piece is.are);
          one_piece = none_moved n is.tokens is.one_piece;
        });
        is_own = own_after n is.tokens own is.is_own;
        syntax = syntax_after n is.tokens r.syntax is.syntax;
        kept =
            subst (λ look. IsKeptOf look f.types (map (command_after n) own) ts (option_map (command_row_after n) r.command) d) (sym same.names)
            (subst (λ look. IsKeptOf s.names look (map (command_after n) own) ts (option_map (command_row_after n) r.command) d) (sym same.types)
            (kept_after n s.names s.types own ts r.command d is.kept));
      }

  same_behind : (f : Front) (s : Sight) (own : List CommandTree) (r : Row) → MeansSame f s
      → MeansSame (front_with f (map (command_after f.end) own) ts (row_after f.end r)) (sight_with s own ts r.command)
  same_behind f s own r same = record {
    names = names_after f.end own ts r.command f.names ∙ ap (names_with own ts r.command) same.names;
    types = types_after f.end own ts r.command f.types ∙ ap (types_with own ts r.command) same.types;
  }

  -- ---- piece after piece

  -- the last one ends where the text ends
  abbrev EndsRows : Front → List Row → Type 0
  EndsRows f rows = (g : Front) × AreRowsFrom text f (placed f.end rows) g ts d × (g.end ≡ length text)

  rows_there : (ahead : List ℕ) (front : List Lexeme) (f : Front) (s : Sight) (ended : List (List ℕ)) (last : List ℕ) (rows : List Row) (sight : Sight)
      → text ≡ ahead ++ joined (ended ++ last ∷ []) → IsAhead ahead front → f.end ≡ length ahead → MeansSame f s → All IsEnded ended
      → AreRows s (ended ++ last ∷ []) rows sight ts b d → EndsRows f rows
  rows_there ahead front f s [] last [] sight divides ahead_is at same all_ended are = absurd are
  rows_there ahead front f s [] last (r ∷ q ∷ rows) sight divides ahead_is at same all_ended are = absurd are.2
  rows_there ahead front f s [] last (r ∷ []) sight divides ahead_is at same all_ended are =
      let own = map (command_after f.end) are.0 in (
        front_with f own ts (row_after f.end r),
        (own, row_there ahead last [] front f s are.0 r divides ahead_is at same (inr refl) are.1, refl),
        omega (arith, are.1.counted, at, ap length divides, length-append ahead (last ++ []), length-append last []),
      )
  rows_there ahead front f s (p ∷ ended) last [] sight divides ahead_is at same all_ended are = absurd are
  rows_there ahead front f s (p ∷ ended) last (r ∷ rows) sight divides ahead_is at same all_ended are =
      let own = map (command_after f.end) are.0 in
      let first = All-head IsEnded p ended all_ended in
      let more = ahead_more ahead p front ahead_is first are.1.is_text in
      let others = joined (ended ++ last ∷ []) in
      let rest =
      rows_there (ahead ++ p) more.0 (front_with f own ts (row_after f.end r)) (sight_with s are.0 ts r.command) ended last rows sight
      (divides ∙ sym (append_assoc ahead p others)) more.1 (omega (arith, are.1.counted, at, length-append ahead p)) (same_behind f s are.0 r same)
      (All-tail IsEnded p ended all_ended) are.2 in
      (rest.0, (own, row_there ahead p others front f s are.0 r divides ahead_is at same (inl first) are.1, rest.1), rest.2)

  -- in front of others: names mean the same behind them
  rows_ahead : (ahead : List ℕ) (front : List Lexeme) (f : Front) (s : Sight) (pieces : List (List ℕ)) (rest : List ℕ) (rows : List Row) (sight : Sight)
      → text ≡ ahead ++ (joined pieces ++ rest) → IsAhead ahead front → f.end ≡ length ahead → MeansSame f s → All IsEnded pieces
      → AreRows s pieces rows sight ts b d → (g : Front) × AreRowsFrom text f (placed f.end rows) g ts d × MeansSame g sight
  rows_ahead ahead front f s [] rest [] sight divides ahead_is at same all_ended are =
      (f, refl, record { names = same.names ∙ ap (λ g. g.names) are; types = same.types ∙ ap (λ g. g.types) are })
  rows_ahead ahead front f s [] rest (r ∷ rows) sight divides ahead_is at same all_ended are = absurd are
  rows_ahead ahead front f s (p ∷ pieces) rest [] sight divides ahead_is at same all_ended are = absurd are
  rows_ahead ahead front f s (p ∷ pieces) rest (r ∷ rows) sight divides ahead_is at same all_ended are =
      let own = map (command_after f.end) are.0 in
      let first = All-head IsEnded p pieces all_ended in
      let more = ahead_more ahead p front ahead_is first are.1.is_text in
      let others = joined pieces ++ rest in
      let through : text ≡ ahead ++ (p ++ others) = divides ∙ ap (λ bytes. ahead ++ bytes) (append_assoc p (joined pieces) rest) in
      let found =
      rows_ahead (ahead ++ p) more.0 (front_with f own ts (row_after f.end r)) (sight_with s are.0 ts r.command) pieces rest rows sight
      (through ∙ sym (append_assoc ahead p others)) more.1 (omega (arith, are.1.counted, at, length-append ahead p)) (same_behind f s are.0 r same)
      (All-tail IsEnded p pieces all_ended) are.2 in
      (found.0, (own, row_there ahead p others front f s are.0 r through ahead_is at same (inl first) are.1, found.1), found.2)

-- ---- all of it

-- rows of a text, up to its end
pub record AreRowsOfText (text : List ℕ) (rows : List Row) (ts : List Typ) (d : Dialect) : Type 0 where
  pub front : Front
  pub are : AreRowsFrom text nothing (placed 0 rows) front ts d
  pub whole : front.end ≡ length text

pub rows_in_text : (text : List ℕ) (ended : List (List ℕ)) (last : List ℕ) (rows : List Row) (sight : Sight) (ts : List Typ) (b : Bound) (d : Dialect)
    → text ≡ joined (ended ++ last ∷ []) → All IsEnded ended → AreRows outset (ended ++ last ∷ []) rows sight ts b d → AreRowsOfText text rows ts d
rows_in_text text ended last rows sight ts b d whole all_ended are =
    let found = rows_there text ts b d [] [] nothing outset ended last rows sight whole none_ahead refl (record { names = refl; types = refl }) all_ended are in
    record { front = found.0; are = found.1; whole = found.2 }

-- the first pieces of a text, all of them ended, in front of the rest: names mean the same behind them, where they stand in the text
pub record AreMeantAhead (text : List ℕ) (rows : List Row) (sight : Sight) (ts : List Typ) (d : Dialect) : Type 0 where
  pub front : Front
  pub are : AreRowsFrom text nothing (placed 0 rows) front ts d
  pub names : front.names ≡ sight.names
  pub types : front.types ≡ sight.types

pub meant_ahead : (text : List ℕ) (pieces : List (List ℕ)) (rest : List ℕ) (rows : List Row) (sight : Sight) (ts : List Typ) (b : Bound) (d : Dialect)
    → text ≡ joined pieces ++ rest → All IsEnded pieces → AreRows outset pieces rows sight ts b d → AreMeantAhead text rows sight ts d
meant_ahead text pieces rest rows sight ts b d whole all_ended are =
    let found = rows_ahead text ts b d [] [] nothing outset pieces rest rows sight whole none_ahead refl (record { names = refl; types = refl }) all_ended are in
    record { front = found.0; are = found.1; names = found.2.names; types = found.2.types }

-- the rows of an analysis, where they stand in its text
pub record AreInText (text : List ℕ) (a : Analysis) : Type 0 where
  pub front : Front
  pub rows : AreRowsFrom text nothing (placed 0 (rows_of a.rows.items)) front (types_in a.types) a.dialect
  pub whole : front.end ≡ length text

pub in_text : (text : List ℕ) (a : Analysis) → IsAnalysisOf text a → AreInText text a
in_text text a h =
    let found = rows_in_text text h.ended h.last (rows_of a.rows.items) h.sight (types_in a.types) a.bound a.dialect h.made_up.whole h.made_up.all_ended h.rows in
    record { front = found.front; rows = found.are; whole = found.whole }

-- those that were read, where no piece is left
pub read_in_text : (text : List ℕ) (a : Analyst) → IsReadThrough [] outset text a → AreRowsOfText text (rows_of a.rows.items) (types_in a.types) (dialect_in a.types)
read_in_text text a h =
    rows_in_text text h.ended h.last (rows_of a.rows.items) h.sight (types_in a.types) a.bound (dialect_in a.types) h.divides h.all_ended h.rows
