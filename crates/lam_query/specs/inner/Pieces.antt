-- Pieces in their text. For private functions only.
use Rattle.std.specs.Prelude.{ℕ, List, take, drop, slice_range}
use Rattle.lam_token.specs.Lexeme.{Lexeme}
use Rattle.lam_query.specs.inner.OnePiece.{IsPieceOf}

-- the piece of a text from one byte to another has these tokens
abbrev pub IsPieceBetween : (text : List ℕ) (start end : ℕ) → List Lexeme → Type 0
IsPieceBetween text start end tokens = IsPieceOf text (take start text) (slice_range text start end) (drop end text) tokens
