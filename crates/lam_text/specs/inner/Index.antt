-- The line index of a document: for each line where it starts, and whether it is all ASCII.
use Rattle.std.specs.Prelude.{ℕ, ◌+◌, Bool, List, [], ◌∷◌, length, nat_lt}
use Rattle.std.specs.List.{list_all}
use Rattle.lam_text.specs.declared.index.Mark.{Mark}
use Rattle.lam_text.specs.Lines.{Line, Lines, Cut, content, line_bytes, lines_of}

-- All bytes are ASCII.
abbrev pub all_ascii : List ℕ → Bool
all_ascii bytes = list_all (λ b. nat_lt b 128) bytes

-- the marks of lines, if the first starts at byte `start`
abbrev pub marks_in : ℕ → List Line → List ℕ → List Mark
marks_in start [] last = record { start = start; ascii = all_ascii last } ∷ []
marks_in start (line ∷ lines) last =
    record { start = start; ascii = all_ascii (content line) } ∷ marks_in (start + length (line_bytes line)) lines last

-- the marks of all lines of a text, including the last
abbrev pub marks_on : ℕ → Lines → List Mark
marks_on start (Cut lines last) = marks_in start lines last

-- the index of a text: one mark for each line
unfoldable pub index_of : List ℕ → List Mark
index_of text = marks_on 0 (lines_of text)
