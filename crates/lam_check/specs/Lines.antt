-- The lines of a text by number, and how their characters are displayed.
use Rattle.std.specs.Prelude.{ℕ, zero, suc, ◌==◌, Bool, List, [], ◌∷◌, take, drop, map, flat_map, replicate, if◌then◌else◌, chars, encode_utf8_all}
use Rattle.std.specs.List.{list_any, sum_by}
use Rattle.std.specs.Int.{is_in_range}
use Rattle.std.specs.Char.{is_control}
use Rattle.lam_rules.specs.Texts.{Text}
use Rattle.lam_text.specs.Lines.{Line, Lines, Cut, content, lines_of}

-- The content of a line without its line ending, by zero-based number, from the ended lines and the last one; empty if there is no such line.
abbrev pub line_in : List Line → List ℕ → ℕ → List ℕ
line_in [] last zero = last
line_in [] last (suc n) = []
line_in (line ∷ lines) last zero = content line
line_in (line ∷ lines) last (suc n) = line_in lines last n

-- the same for the lines of a text
abbrev pub line_on : Lines → ℕ → List ℕ
line_on (Cut lines last) n = line_in lines last n

-- the content of the line with this number
unfoldable pub line_of : List ℕ → ℕ → List ℕ
line_of text n = line_on (lines_of text) n

-- the code point is in one of the ranges
abbrev pub is_in_ranges : List (ℕ × ℕ) → ℕ → Bool
is_in_ranges ranges c = list_any (λ range. is_in_range range.0 range.1 c) ranges

-- the characters that change the direction of those after them: Unicode's directional embeddings, overrides and isolates, with the characters that end them
unfoldable pub directional : List (ℕ × ℕ)
directional = (0x202A, 0x202E) ∷ (0x2066, 0x2069) ∷ []

-- The character to display. It is U+FFFD for control characters other than the tab, since they could control the terminal, and for these directional ones, since they could
-- make a line look like another one.
abbrev pub shown : ℕ → ℕ
shown c = if c == 9 then 9 else (if is_control c then 0xFFFD else (if is_in_ranges directional c then 0xFFFD else c))

-- The characters to which a terminal gives two columns, in ranges from a first to a last code point: East Asian wide and fullwidth characters, and emoji. They are
-- taken from Unicode's property East_Asian_Width, mostly in whole blocks; terminals differ at single characters.
unfoldable pub wide : List (ℕ × ℕ)
wide =
    (0x1100, 0x115F) ∷ (0x2E80, 0x303E) ∷ (0x3041, 0xA4CF) ∷ (0xA960, 0xA97F) ∷ (0xAC00, 0xD7A3) ∷ (0xF900, 0xFAFF) ∷ (0xFE30, 0xFE6F) ∷ (0xFF01, 0xFF60) ∷ (0xFFE0, 0xFFE6)
    ∷ (0x1F300, 0x1F64F) ∷ (0x1F680, 0x1F6FF) ∷ (0x1F900, 0x1F9FF) ∷ (0x1FA70, 0x1FAFF) ∷ (0x20000, 0x3FFFD) ∷ []

-- The characters to which it gives none: combining marks, zero-width characters and variation selectors. These are taken from Unicode's general categories, mostly in whole blocks.
unfoldable pub zero_width : List (ℕ × ℕ)
zero_width = (0x300, 0x36F) ∷ (0x1AB0, 0x1AFF) ∷ (0x1DC0, 0x1DFF) ∷ (0x200B, 0x200F) ∷ (0x20D0, 0x20FF) ∷ (0xFE00, 0xFE0F) ∷ (0xFE20, 0xFE2F) ∷ []

-- the number of columns of a character; a tab counts as one
abbrev pub columns : ℕ → ℕ
columns c = if is_in_ranges wide c then 2 else (if is_in_ranges zero_width c then 0 else 1)

-- the columns of the characters of a line from number `start` to before number `end`
abbrev pub columns_between : (start end : ℕ) → List ℕ → ℕ
columns_between start end line = sum_by columns (drop start (take end (chars line)))

-- what is written below `c`, before the mark: a tab for a tab, and as many blanks as the character has columns for any other
abbrev pub blank : ℕ → Text
blank c = if c == 9 then 9 ∷ [] else replicate (columns c) 32

-- a line as displayed
abbrev pub shown_line : List ℕ → Text
shown_line line = encode_utf8_all (map shown (chars line))

-- the blanks below the first `count` characters of a line
abbrev pub blanks : (count : ℕ) → List ℕ → Text
blanks count line = flat_map blank (take count (chars line))

-- this many marks
abbrev pub marks : (count : ℕ) → Text
marks count = replicate count 94
