-- Position encodings (LSP 3.17, "Position Encoding Kind").
use Rattle.std.specs.Prelude.{ℕ, ◌-◌, List, [], ◌∷◌, length, nat_lt, nat_le, if◌then◌else◌}
use Rattle.std.specs.List.{sum_by}
use Rattle.std.specs.Char.{len_utf8}
use Rattle.std.specs.Str.{chars, encode_utf8_all}
use Rattle.lam_text.specs.declared.units.Encoding.{Encoding}
use Rattle.lam_text.specs.declared.units.Encoding.TheVariants.{Utf8, Utf16, Utf32}

-- the number of units in a character: its bytes in UTF-8, its 16-bit units in UTF-16, or 1
abbrev pub units_of : Encoding → ℕ → ℕ
units_of Utf8 c = len_utf8 c
units_of Utf16 c = if nat_lt c 0x1_0000 then 1 else 2
units_of Utf32 c = 1

-- the number of units in some characters
abbrev pub units : Encoding → List ℕ → ℕ
units encoding cs = sum_by (units_of encoding) cs

-- the number of units in the text that these bytes encode
abbrev pub units_in : Encoding → List ℕ → ℕ
units_in encoding bytes = units encoding (chars bytes)

-- the longest prefix of some characters that takes at most `room` units
abbrev pub front_within : Encoding → ℕ → List ℕ → List ℕ
front_within encoding room [] = []
front_within encoding room (c ∷ cs) =
    if nat_le (units_of encoding c) room then c ∷ front_within encoding (room - units_of encoding c) cs else []

-- the length in bytes of the longest prefix of a line that takes at most `room` units
abbrev pub bytes_within : Encoding → ℕ → List ℕ → ℕ
bytes_within encoding room line = length (encode_utf8_all (front_within encoding room (chars line)))
