-- The byte offset of a position, and the position of a byte offset (LSP 3.17, "Position").
use Rattle.std.specs.Prelude.{◌≡◌, ℕ, zero, suc, ◌+◌, ◌-◌, ◌<◌, List, [], ◌∷◌, length, take, slice_index, nat_lt, if◌then◌else◌}
use Rattle.lam_text.specs.declared.units.Encoding.{Encoding}
use Rattle.lam_text.specs.declared.places.Position.{Position}
use Rattle.lam_text.specs.Units.{bytes_within, units_in}
use Rattle.lam_text.specs.Lines.{Line, Lines, Cut, content, line_bytes, lines_of}

-- the length of all earlier lines, and of as much of this line as fits into `character` units; a line past the last one means the end of the text
abbrev pub offset_in : Encoding → List Line → List ℕ → ℕ → ℕ → ℕ
offset_in encoding [] last zero character = bytes_within encoding character last
offset_in encoding [] last (suc n) character = length last
offset_in encoding (line ∷ lines) last zero character = bytes_within encoding character (content line)
offset_in encoding (line ∷ lines) last (suc n) character =
    length (line_bytes line) + offset_in encoding lines last n character

-- the byte offset of a position in a text of these lines
abbrev pub offset_on : Encoding → Lines → Position → ℕ
offset_on encoding (Cut lines last) position = offset_in encoding lines last position.line position.character

-- the byte offset of a position of a text
unfoldable pub offset_of : Encoding → List ℕ → Position → ℕ
offset_of encoding text position = offset_on encoding (lines_of text) position

-- the same position, counted from the line above
abbrev pub one_line_down : Position → Position
one_line_down position = record { line = position.line + 1; character = position.character }

-- The line number counts the line endings before the offset. The column counts from the start of the line, and stops where the line ending begins.
abbrev pub position_in : Encoding → List Line → List ℕ → ℕ → Position
position_in encoding [] last offset = record { line = 0; character = units_in encoding (take offset last) }
position_in encoding (line ∷ lines) last offset =
    if nat_lt offset (length (line_bytes line))
    then record { line = 0; character = units_in encoding (take offset (content line)) }
    else one_line_down (position_in encoding lines last (offset - length (line_bytes line)))

-- the position of a byte offset in a text of these lines
abbrev pub position_on : Encoding → Lines → ℕ → Position
position_on encoding (Cut lines last) offset = position_in encoding lines last offset

-- the position of a byte offset
unfoldable pub position_of : Encoding → List ℕ → ℕ → Position
position_of encoding text offset = position_on encoding (lines_of text) offset

-- The offset is between a CR and its LF, so it is not 0.
pub record IsInsideCrLf (text : List ℕ) (offset : ℕ) : Type 0 where
  pub after_start : 0 < offset
  pub cr : slice_index text (offset - 1) ≡ 13
  pub lf : slice_index text offset ≡ 10
