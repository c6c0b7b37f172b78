-- Where the pieces of a text begin and end, and the parts of a text that they are.
use Rattle.std.proofs.Common.{◌≡◌, ℕ, ◌+◌, ◌≤◌, List, ◌++◌, length, take, slice_range, sym, ap, subst, ◌∙◌, arith}
use Rattle.std.specs.Str.{IsUtf8, IsCharBoundary}
use Rattle.std.proofs.lemmas.List.{length-append, length-take-le, take-append-drop, take-take}
use Rattle.std.proofs.lemmas.Slice.{between_is}
use Rattle.std.proofs.lemmas.Str.{IsUtf8-append, IsCharBoundary-from_take}
use Rattle.lam_token.specs.Lexeme.{Lexeme}
use Rattle.lam_query.specs.inner.Pieces.{IsPieceBetween}

-- ---- parts of a text

pub parts : (text : List ℕ) (start end : ℕ) → start ≤ end → take end text ≡ take start text ++ slice_range text start end
parts text start end le =
    sym (take-append-drop start (take end text))
    ∙ (λ i. take-take start end text le i ++ sym (between_is text start end) i)

-- ---- where a piece begins and ends

-- the lengths of a part and of what is in front of it
pub part_ends : (text : List ℕ) (start end : ℕ) → start ≤ end → end ≤ length text → length (take start text) + length (slice_range text start end) ≡ end
part_ends text start end le inside =
    let whole = ap length (parts text start end le) in
    omega (arith, whole, length-append (take start text) (slice_range text start end), length-take-le end text inside)

-- it begins and ends between characters

pub begins_between : (text : List ℕ) (start end : ℕ) (tokens : List Lexeme) → IsUtf8 text → start ≤ end → end ≤ length text
    → IsPieceBetween text start end tokens → IsCharBoundary text start
begins_between text start end tokens is_text forward inside piece =
    IsCharBoundary-from_take text start is_text (omega (arith, forward, inside)) piece.is_front

pub ends_between : (text : List ℕ) (start end : ℕ) (tokens : List Lexeme) → IsUtf8 text → start ≤ end → end ≤ length text
    → IsPieceBetween text start end tokens → IsCharBoundary text end
ends_between text start end tokens is_text forward inside piece =
    IsCharBoundary-from_take text end is_text inside
    (subst IsUtf8 (sym (parts text start end forward))
    (IsUtf8-append (take start text) (slice_range text start end) piece.is_front piece.is_piece))
