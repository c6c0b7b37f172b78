-- The lines of a text, ended by CR LF, LF or CR (LSP 3.17, "Text Documents").
use Rattle.std.specs.Prelude.{◌≡◌, ◌≢◌, ℕ, Bool, true, false, not, ◌||◌, ◌==◌, List, [], ◌∷◌, ◌++◌, if◌then◌else◌}
use Rattle.std.specs.List.{list_all}

-- the three line endings; a CR that an LF follows is a part of CR LF
pub data LineEnd : Type 0 where
  CrLf : LineEnd
  Lf : LineEnd
  Cr : LineEnd

-- the bytes of a line ending
abbrev pub end_bytes : LineEnd → List ℕ
end_bytes CrLf = 13 ∷ 10 ∷ []
end_bytes Lf = 10 ∷ []
end_bytes Cr = 13 ∷ []

-- a line with its line ending
pub data Line : Type 0 where
  Ended : List ℕ → LineEnd → Line

-- the bytes of a line without its line ending
abbrev pub content : Line → List ℕ
content (Ended bytes ending) = bytes

-- the bytes of a line and of its line ending
abbrev pub line_bytes : Line → List ℕ
line_bytes (Ended bytes ending) = bytes ++ end_bytes ending

-- a text as its ended lines, and its last line, which has no line ending and may be empty
pub data Lines : Type 0 where
  Cut : List Line → List ℕ → Lines

-- a byte that is neither CR nor LF
abbrev pub is_plain : ℕ → Bool
is_plain b = not (b == 13 || b == 10)

-- The bytes contain no CR and no LF.
abbrev pub IsPlain : List ℕ → Type 0
IsPlain bytes = list_all is_plain bytes ≡ true

-- A CR is a line ending only if no LF follows it.
abbrev pub EndStands : LineEnd → List ℕ → Type 0
EndStands CrLf after = Unit {0}
EndStands Lf after = Unit {0}
EndStands Cr [] = Unit {0}
EndStands Cr (b ∷ after) = b ≢ 10

-- The text is these ended lines followed by this last line.
abbrev pub Spell : List Line → List ℕ → List ℕ → Type 0
Spell [] last text = (text ≡ last) × IsPlain last
Spell (Ended bytes ending ∷ lines) last text =
    (after : List ℕ) × (text ≡ bytes ++ (end_bytes ending ++ after)) × IsPlain bytes × EndStands ending after × Spell lines last after

-- These are the lines of the text, with their line endings, and its last line.
abbrev pub IsCutOf : List ℕ → Lines → Type 0
IsCutOf text (Cut lines last) = Spell lines last text

-- The text begins with an LF.
abbrev pub begins_with_lf : List ℕ → Bool
begins_with_lf [] = false
begins_with_lf (b ∷ bytes) = b == 10

-- the lines with one more before them
abbrev pub with_line : Line → Lines → Lines
with_line line (Cut lines last) = Cut (line ∷ lines) last

-- the lines with one more byte at the front of the first
abbrev pub with_byte : ℕ → Lines → Lines
with_byte b (Cut [] last) = Cut [] (b ∷ last)
with_byte b (Cut (Ended bytes ending ∷ lines) last) = Cut (Ended (b ∷ bytes) ending ∷ lines) last

-- the lines with a CR before a text that begins with an LF, which together are one line ending
abbrev pub with_cr : Lines → Lines
with_cr (Cut [] last) = Cut (Ended [] CrLf ∷ []) last
with_cr (Cut (line ∷ lines) last) = Cut (Ended [] CrLf ∷ lines) last

-- the lines of a text
unfoldable pub lines_of : List ℕ → Lines
lines_of [] = Cut [] []
lines_of (b ∷ bytes) =
    if b == 10 then with_line (Ended [] Lf) (lines_of bytes)
    else (if b == 13 then (if begins_with_lf bytes then with_cr (lines_of bytes) else with_line (Ended [] Cr) (lines_of bytes))
    else with_byte b (lines_of bytes))
