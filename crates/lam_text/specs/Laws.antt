-- Laws of lines, positions and edits.
use Rattle.std.specs.Prelude.{◌≡◌, ℕ, ◌+◌, ◌≤◌, List, [], ◌∷◌, ◌++◌, length}
use Rattle.lam_text.specs.declared.units.Encoding.{Encoding}
use Rattle.lam_text.specs.Units.{units}
use Rattle.lam_text.specs.Lines.{Line, Lines, Cut, line_bytes, lines_of}

-- `front` is a prefix of these characters that takes at most `room` units, and no longer one does.
pub record IsLongestFront (encoding : Encoding) (room : ℕ) (cs front : List ℕ) : Type 0 where
  pub is_front : (back : List ℕ) × (cs ≡ front ++ back)
  pub fits : units encoding front ≤ room
  pub longest : (other back : List ℕ) → cs ≡ other ++ back → units encoding other ≤ room → length other ≤ length front

-- the offsets at which the line endings of these lines end, if the first line starts at byte `start`
abbrev pub ends_in : ℕ → List Line → List ℕ
ends_in start [] = []
ends_in start (line ∷ lines) = (start + length (line_bytes line)) ∷ ends_in (start + length (line_bytes line)) lines

-- the same for all lines of a text; the last one has no line ending
abbrev pub ends_on : Lines → List ℕ
ends_on (Cut lines last) = ends_in 0 lines

-- the offsets at which the line endings of a text end
abbrev pub line_ends : List ℕ → List ℕ
line_ends text = ends_on (lines_of text)
