-- A token, without its address in memory.
use Rattle.std.specs.Prelude.{ℕ, ◌+◌, List, length}
use Rattle.lam_token.specs.declared.kind.Kind.{Kind}
use Rattle.lam_token.specs.declared.span.Span.{Span}

-- its kind, the bytes of its text, and its span
pub data Lexeme : Type 0 where
  lexeme : (kind : Kind) → (text : List ℕ) → (span : Span) → Lexeme

-- the kind of the token
abbrev pub kind_of : Lexeme → Kind
kind_of (lexeme kind text span) = kind

-- the bytes of its text
abbrev pub text_of : Lexeme → List ℕ
text_of (lexeme kind text span) = text

-- its span, from its first byte to the one after its last
abbrev pub span_of : Lexeme → Span
span_of (lexeme kind text span) = span

-- the byte offset of its first byte
abbrev pub start_of : Lexeme → ℕ
start_of t = (span_of t).start

-- the byte offset just after its last byte
abbrev pub end_of : Lexeme → ℕ
end_of t = (span_of t).end

-- the token with this text that begins at this byte offset
abbrev pub lexeme_at : Kind → List ℕ → (start : ℕ) → Lexeme
lexeme_at kind text start = lexeme kind text (record { start = start; end = start + length text })
