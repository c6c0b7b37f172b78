-- Tokens with other spans.
use Rattle.std.specs.Prelude.{ℕ, ◌+◌, ◌-◌}
use Rattle.lam_token.specs.Lexeme.{Lexeme, lexeme}
use Rattle.lam_token.specs.Edits.{span_placed}

-- the same token with its byte offsets mapped
abbrev pub placed_by : (place : ℕ → ℕ) → Lexeme → Lexeme
placed_by place (lexeme kind text s) = lexeme kind text (span_placed place s)

-- the same token, moved forward by this many bytes
abbrev pub moved_by : (count : ℕ) → Lexeme → Lexeme
moved_by count t = placed_by (λ o. o + count) t

-- the same token of a text whose first byte moves from offset `start` to offset `other`
abbrev pub moved_from : (start other : ℕ) → Lexeme → Lexeme
moved_from start other t = placed_by (λ o. (o - start) + other) t
