-- Scanning of a header part. For private functions only.
use Rattle.std.specs.Prelude.{◌≡◌, ℕ, List, ◌∷◌, ◌++◌, length, take, drop, if◌then◌else◌, Result, Err}
use Rattle.std.specs.List.{prefix_len, after_first}
use Rattle.lam_frame.specs.Header.{AreLines, IsSpoiled, IsUnfinished, IsMisplaced, IsBegunEnd, is_header_byte, header_text, body_length, has_colon, names_length, is_colon, trim, length_in}
use Rattle.lam_frame.specs.declared.fault.FrameFault.{FrameFault}
use Rattle.lam_frame.specs.declared.fault.FrameFault.TheVariants.{NoLength, BadLength, BadHeader}
use Rattle.lam_frame.specs.declared.header.Header.{Header}
use Rattle.lam_frame.specs.declared.header.Header.TheVariants.{Whole, Unfinished, Spoiled}
use Rattle.lam_frame.specs.declared.header.Line.{Line}
use Rattle.lam_frame.specs.declared.header.Line.TheVariants.{Whole as WholeLine, Unfinished as UnfinishedLine, Spoiled as SpoiledLine}

-- the leading bytes that are allowed in a line
abbrev pub plain_part : List ℕ → List ℕ
plain_part bytes = take (prefix_len is_header_byte bytes) bytes

-- the bytes after them
abbrev pub plain_rest : List ℕ → List ℕ
plain_rest bytes = drop (prefix_len is_header_byte bytes) bytes

-- what the bytes begin with, by the first byte that is not allowed in a line
abbrev pub IsFirstLine : List ℕ → Line → Type 0
IsFirstLine bytes (WholeLine line after) = (line.now ≡ plain_part bytes) × (plain_rest bytes ≡ 13 ∷ 10 ∷ after.now)
IsFirstLine bytes UnfinishedLine = IsBegunEnd (plain_rest bytes)
IsFirstLine bytes SpoiledLine = IsMisplaced (plain_rest bytes)

-- a header part of any length
pub record HasLines (bytes : List ℕ) (len : ℕ) (body : Result ℕ FrameFault) : Type 0 where
  pub lines : List (List ℕ)
  pub are_lines : AreLines lines
  pub text : bytes ≡ header_text lines ++ drop len bytes
  pub size : len ≡ length (header_text lines)
  pub says : body ≡ body_length lines

-- the result of scanning the bytes
abbrev pub IsScan : List ℕ → Header → Type 0
IsScan bytes (Whole len body) = HasLines bytes len body
IsScan bytes Unfinished = IsUnfinished bytes
IsScan bytes Spoiled = IsSpoiled bytes

-- the result after one more line, which gives the length
abbrev pub with_length_of : Result ℕ FrameFault → List ℕ → Result ℕ FrameFault
with_length_of (Err NoLength) value = length_in (trim value)
with_length_of (Err BadHeader) value = Err BadHeader
with_length_of _ value = Err BadLength

-- the result after any one more line
abbrev pub with_line_of : Result ℕ FrameFault → List ℕ → Result ℕ FrameFault
with_line_of so_far line = if has_colon line then (if names_length line then with_length_of so_far (after_first is_colon line) else so_far) else Err BadHeader
