-- Header parts of the base protocol (LSP 3.17, "Header Part"): lines, each ended by CR LF, and an empty line.
use Rattle.std.specs.Prelude.{◌≡◌, ◌≢◌, ◌⊎◌, ℕ, ◌<◌, ◌≤◌, Bool, true, not, ◌&&◌, ◌||◌, if◌then◌else◌, ◌==◌, nat_lt, nat_le, List, [], ◌∷◌, ◌++◌, length, map, filter, codes, Result, Ok, Err}
use Rattle.std.specs.List.{list_all, list_any, before_first, after_first, AllByRecursion}
use Rattle.std.specs.Char.{is_ascii_digit, to_ascii_lowercase}
use Rattle.std.specs.Str.{bytes_eq}
use Rattle.std.specs.Str.Parse.{digits_value}
use Rattle.lam_frame.specs.declared.fault.FrameFault.{FrameFault}
use Rattle.lam_frame.specs.declared.fault.FrameFault.TheVariants.{NoLength, BadLength, TooLong, BadHeader}

-- the maximum length of a header part in bytes
abbrev pub header_limit : ℕ
header_limit = 4096

-- the maximum length of a body in bytes: 64 MiB
abbrev pub body_limit : ℕ
body_limit = 67108864

-- ---- the lines

-- a byte allowed in a line: ASCII, and neither CR nor LF
abbrev pub is_header_byte : ℕ → Bool
is_header_byte b = nat_lt b 128 && not (b == 13 || b == 10)

-- The bytes are all allowed in a line.
abbrev pub IsPlain : List ℕ → Type 0
IsPlain bytes = list_all is_header_byte bytes ≡ true

-- A line is not empty, since an empty one ends the header part.
abbrev pub IsLine : List ℕ → Type 0
IsLine line = (0 < length line) × IsPlain line

-- Each of them is a line.
abbrev pub AreLines : List (List ℕ) → Type 0
AreLines lines = AllByRecursion IsLine lines

-- the lines, each ended by CR LF
abbrev pub ended_lines : List (List ℕ) → List ℕ
ended_lines [] = []
ended_lines (line ∷ lines) = line ++ (13 ∷ 10 ∷ ended_lines lines)

-- the lines followed by the empty line
abbrev pub header_text : List (List ℕ) → List ℕ
header_text lines = ended_lines lines ++ (13 ∷ 10 ∷ [])

-- The bytes begin with the header part made of these lines, and these bytes follow it.
pub record HasHeader (bytes : List ℕ) (lines : List (List ℕ)) (after : List ℕ) : Type 0 where
  pub are_lines : AreLines lines
  pub text : bytes ≡ header_text lines ++ after
  pub fits : length (header_text lines) ≤ header_limit

-- ---- invalid and incomplete header parts

-- The first byte is not allowed in a header part: it is above 127, an LF without a CR before it, or a CR followed by another byte than LF.
abbrev pub IsMisplaced : List ℕ → Type 0
IsMisplaced [] = ⊥
IsMisplaced (b ∷ []) = (128 ≤ b) ⊎ (b ≡ 10)
IsMisplaced (b ∷ c ∷ _) = ((128 ≤ b) ⊎ (b ≡ 10)) ⊎ ((b ≡ 13) × (c ≢ 10))

-- Some lines, then a part of a line, and then a byte that is not allowed there.
pub record IsSpoiled (bytes : List ℕ) : Type 0 where
  pub lines : List (List ℕ)
  pub part : List ℕ
  pub rest : List ℕ
  pub are_lines : AreLines lines
  pub plain : IsPlain part
  pub misplaced : IsMisplaced rest
  pub text : bytes ≡ ended_lines lines ++ (part ++ rest)

-- the part of CR LF at the end of the bytes: nothing yet, or the CR
abbrev pub IsBegunEnd : List ℕ → Type 0
IsBegunEnd [] = Unit {0}
IsBegunEnd (b ∷ []) = b ≡ 13
IsBegunEnd (_ ∷ _ ∷ _) = ⊥

-- Some lines, and then at most a part of a line.
pub record IsUnfinished (bytes : List ℕ) : Type 0 where
  pub lines : List (List ℕ)
  pub part : List ℕ
  pub begun_end : List ℕ
  pub are_lines : AreLines lines
  pub plain : IsPlain part
  pub begun : IsBegunEnd begun_end
  pub text : bytes ≡ ended_lines lines ++ (part ++ begun_end)

-- There are at least 4,096 bytes, and no header part ends within the limit.
pub record IsTooLong (bytes : List ℕ) : Type 0 where
  pub long : header_limit ≤ length bytes
  pub endless : (lines : List (List ℕ)) (after : List ℕ) → HasHeader bytes lines after → ⊥

-- ---- the fields

-- `:`
abbrev pub is_colon : ℕ → Bool
is_colon b = b == 58

-- The line has a colon between a name and a value.
abbrev pub has_colon : List ℕ → Bool
has_colon line = list_any is_colon line

-- The name before the first colon is `Content-Length`, ignoring case.
abbrev pub names_length : List ℕ → Bool
names_length line = bytes_eq (map to_ascii_lowercase (before_first is_colon line)) (codes "content-length")

-- a space or a tab
abbrev pub is_blank_byte : ℕ → Bool
is_blank_byte b = b == 32 || b == 9

-- the bytes without leading spaces and tabs
abbrev pub trim_front : List ℕ → List ℕ
trim_front [] = []
trim_front (b ∷ bs) = if is_blank_byte b then trim_front bs else b ∷ bs

-- the bytes without trailing spaces and tabs
abbrev pub trim_back : List ℕ → List ℕ
trim_back [] = []
trim_back (b ∷ bs) = if is_blank_byte b && list_all is_blank_byte bs then [] else b ∷ trim_back bs

-- the bytes without leading and trailing spaces and tabs
abbrev pub trim : List ℕ → List ℕ
trim bs = trim_back (trim_front bs)

-- 1 to 19 decimal digits
abbrev pub is_length : List ℕ → Bool
is_length ds = nat_lt 0 (length ds) && (nat_le (length ds) 19 && list_all is_ascii_digit ds)

-- the number in a value of `Content-Length`, at most 64 MiB
abbrev pub length_in : List ℕ → Result ℕ FrameFault
length_in value =
    if is_length value then (if nat_lt body_limit (digits_value 10 value) then Err TooLong else Ok (digits_value 10 value)) else Err BadLength

-- the value of the only line that gives the length
abbrev pub one_length : List (List ℕ) → Result ℕ FrameFault
one_length [] = Err NoLength
one_length (line ∷ []) = length_in (trim (after_first is_colon line))
one_length (_ ∷ _ ∷ _) = Err BadLength

-- the length of the body according to these lines, or their error
abbrev pub body_length : List (List ℕ) → Result ℕ FrameFault
body_length lines = if list_any (λ line. not (has_colon line)) lines then Err BadHeader else one_length (filter names_length lines)
