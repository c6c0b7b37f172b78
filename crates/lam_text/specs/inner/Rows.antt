-- The lines of a text by number. For private contracts only.
use Rattle.std.specs.Prelude.{ℕ, zero, suc, ◌+◌, List, [], ◌∷◌, length}
use Rattle.lam_text.specs.Lines.{Line, Lines, Cut, content, line_bytes, lines_of}

-- the length of the lines before line `n`
abbrev pub start_in : List Line → ℕ → ℕ
start_in [] n = 0
start_in (line ∷ lines) zero = 0
start_in (line ∷ lines) (suc n) = length (line_bytes line) + start_in lines n

-- the content of line `n`
abbrev pub content_in : List Line → List ℕ → ℕ → List ℕ
content_in [] last n = last
content_in (line ∷ lines) last zero = content line
content_in (line ∷ lines) last (suc n) = content_in lines last n

-- the start of line `n` in a text with these lines
abbrev pub start_on : Lines → ℕ → ℕ
start_on (Cut lines last) n = start_in lines n

-- the content of line `n` in a text with these lines
abbrev pub content_on : Lines → ℕ → List ℕ
content_on (Cut lines last) n = content_in lines last n

-- the start of line `n` of a text
abbrev pub line_start : List ℕ → ℕ → ℕ
line_start text n = start_on (lines_of text) n

-- the content of line `n` of a text, without its line ending
abbrev pub line_content : List ℕ → ℕ → List ℕ
line_content text n = content_on (lines_of text) n
