-- Spans of a text.
use Rattle.std.specs.Prelude.{ℕ, List}
use Rattle.std.specs.Str.{IsCharBoundary}
use Rattle.lam_token.specs.declared.span.Span.{Span}

-- a span starts and ends between two characters of the text
abbrev pub IsSpanOfText : List ℕ → Span → Type 0
IsSpanOfText text s = IsCharBoundary text s.start × IsCharBoundary text s.end
