-- Human-readable reports on a text.
use Rattle.std.specs.Prelude.{◌≡◌, ℕ, ◌+◌, ◌==◌, List, [], ◌∷◌, ◌++◌, codes, chars, decimal, flat_map, length, max, Option, Some, None, if◌then◌else◌}
use Rattle.lam_rules.specs.Texts.{Text}
use Rattle.lam_rules.specs.declared.rules.Dialect.{Dialect}
use Rattle.lam_text.specs.declared.places.Position.{Position}
use Rattle.lam_text.specs.declared.units.Encoding.TheVariants.{Utf32}
use Rattle.lam_text.specs.Positions.{position_of}
use Rattle.lam_query.specs.Mismatches.{Mismatch, expected, found, ExplainedFault, AreExplained}
use Rattle.lam_session.specs.Diagnostics.{message_of}
use Rattle.lam_check.specs.declared.paint.Paint.{Paint}
use Rattle.lam_check.specs.Paints.{painted}
use Rattle.lam_check.specs.Lines.{line_of, columns_between, shown_line, blanks, marks}

-- the position of an offset, in characters; line and column are zero-based
abbrev pub place_of : List ℕ → (offset : ℕ) → Position
place_of text offset = position_of Utf32 text offset

-- a line and a column as printed, both counted from 1
abbrev pub place_text : Position → Text
place_text p = decimal (p.line + 1) ++ codes ":" ++ decimal (p.character + 1)

-- the column after the last marked character: the end of the diagnostic, or the end of the line if the diagnostic ends on a later one
abbrev pub last_column : (line : List ℕ) → (start end : Position) → ℕ
last_column line start end = if end.line == start.line then end.character else length (chars line)

-- the number of columns to mark: those of the diagnostic's characters on its first line, but at least one
abbrev pub width : (line : List ℕ) → (start end : Position) → ℕ
width line start end = max 1 (columns_between start.character (last_column line start end) line)

-- `FILE:LINE:COLUMN: error[CODE]: MESSAGE`, with the file name escaped like a line
abbrev pub head : Paint → (name : Text) → (code : Text) → Position → Text
head paint name code start = shown_line name ++ codes ":" ++ place_text start ++ codes ": " ++ painted paint (codes "error[" ++ code ++ codes "]") ++ codes ": " ++ message_of code

-- the line where a diagnostic starts, and the mark below it
abbrev pub excerpt : Paint → (line : List ℕ) → (start end : Position) → Text
excerpt paint line start end = shown_line line ++ 10 ∷ [] ++ blanks start.character line ++ painted paint (marks (width line start end))

-- the expected and the found type after the mark, if there are any
abbrev pub mismatch_text : Option Mismatch → Text
mismatch_text None = []
mismatch_text (Some (expected t u)) = codes " expected " ++ t ++ codes ", found " ++ u
mismatch_text (Some (found t)) = codes " found " ++ t

-- the line where a diagnostic starts, the mark below it, and the types after the mark
unfoldable pub marked : Paint → (line : List ℕ) → (start end : Position) → Option Mismatch → Text
marked paint line start end mismatch = excerpt paint line start end ++ mismatch_text mismatch

-- a diagnostic between two positions: its head, and its line with the mark
abbrev pub between : Paint → (name : Text) → (text : List ℕ) → (code : Text) → (start end : Position) → Option Mismatch → Text
between paint name text code start end mismatch =
    head paint name code start ++ 10 ∷ [] ++ marked paint (line_of text start.line) start end mismatch ++ 10 ∷ []

-- a diagnostic of a text
abbrev pub fault_report : Paint → (name : Text) → (text : List ℕ) → ExplainedFault → Text
fault_report paint name text e = between paint name text e.fault.code (place_of text e.fault.span.start) (place_of text e.fault.span.end) e.mismatch

-- The report on a text with this name: exactly its diagnostics, in order, each at its line and column and with the expected and found types, if any; and their number.
pub record IsReport (paint : Paint) (name : Text) (text : List ℕ) (d : Dialect) (report : Text) (count : ℕ) : Type 0 where
  pub faults : List ExplainedFault
  pub are_faults : AreExplained text faults d
  pub shown : report ≡ flat_map (fault_report paint name text) faults
  pub counted : count ≡ length faults
