-- What an analysis keeps of each piece of a text, as values. Offsets are relative to the start of the piece, or, in a row placed in a text, to the start of the text. For
-- private functions only.
use Rattle.std.specs.Prelude.{ℕ, ◌+◌, ◌<◌, ◌^◌, List, [], ◌∷◌, map, flat_map, All, Option, Some, None}
use Rattle.std.specs.Option.{option_map, option_or}
use Rattle.lam_token.specs.Edits.{span_placed}
use Rattle.lam_token.specs.declared.span.Span.{Span}
use Rattle.lam_rules.specs.declared.numbers.TyNo.{TyNo}
use Rattle.lam_syntax.specs.Respelled.{respelled_command}
use Rattle.lam_syntax.specs.Trees.{CommandTree}
use Rattle.lam_query.specs.declared.bound.NameNo.{NameNo}
use Rattle.lam_query.specs.declared.rows.CommandRow.{CommandRow as RustCommandRow}
use Rattle.lam_query.specs.declared.rows.Found.{Found as RustFound}
use Rattle.lam_query.specs.declared.rows.Found.TheVariants as rust
use Rattle.lam_query.specs.declared.rows.FoundTypes.{FoundTypes as RustFoundTypes}
use Rattle.lam_query.specs.declared.rows.Row.{Row as RustRow}
use Rattle.lam_query.specs.Faults.{Fault}
use Rattle.lam_query.specs.Views.{fault_of}

-- ---- the values

-- the types of a command in which none is over the size limit: those of its terms, by number; the diagnostics; and the entry of what it binds
pub record FoundTypes : Type 0 where
  pub types : List (Option TyNo)
  pub faults : List Fault
  pub bound : Option TyNo

-- the types of a command, or the span of the first written type or else the first term over the size limit
pub data Found : Type 0 where
  written_too_large : Span → Found
  term_too_large : Span → Found
  typed : FoundTypes → Found

-- what is kept of a command: the numbers of its free names and of the name that it binds, and the types found
pub record CommandRow : Type 0 where
  pub free_numbers : List NameNo
  pub binds : Option NameNo
  pub found : Found

-- what is kept of a piece: where it ends, its lexical and syntactic diagnostics, and what is kept of its command
pub record Row : Type 0 where
  pub end : ℕ
  pub syntax : List Fault
  pub command : Option CommandRow

-- ---- what the code's values denote

-- types of a command in which none is over the size limit
abbrev pub found_types_of : RustFoundTypes → FoundTypes
found_types_of t = record { types = t.types.items; faults = map fault_of t.faults.items; bound = t.bound }

-- the types of a command
abbrev pub found_of : RustFound → Found
found_of (rust.LargeWrittenType s) = written_too_large s
found_of (rust.LargeTerm s) = term_too_large s
found_of (rust.Types t) = typed (found_types_of t)

-- what is kept of a command
abbrev pub command_row_of : RustCommandRow → CommandRow
command_row_of k = record { free_numbers = k.free_numbers.items; binds = k.binds; found = found_of k.found }

-- what is kept of a piece
abbrev pub row_of : RustRow → Row
row_of r = record { end = r.end; syntax = map fault_of r.syntax.items; command = option_map command_row_of r.command }

-- the rows of several pieces
abbrev pub rows_of : List RustRow → List Row
rows_of = map row_of

-- ---- the contents of a row

-- the entry of what a command binds, as a type id
abbrev pub bound_by : Found → Option TyNo
bound_by (typed t) = t.bound
bound_by f = None

-- the entry of what a piece binds, if it is a command
abbrev pub entry_in : Option CommandRow → Option TyNo
entry_in None = None
entry_in (Some k) = bound_by k.found

-- what was found for the command of a row
abbrev pub found_in : Row → Option Found
found_in r = option_map (λ k. k.found) r.command

-- the span of a written type over the size limit
abbrev pub large_written_type : Option Found → Option Span
large_written_type (Some (written_too_large s)) = Some s
large_written_type f = None

-- the span of a term whose type is over the size limit
abbrev pub large_term : Option Found → Option Span
large_term (Some (term_too_large s)) = Some s
large_term f = None

-- its types, if none is over the size limit
abbrev pub types_of_found : Option Found → Option FoundTypes
types_of_found (Some (typed t)) = Some t
types_of_found f = None

-- the types of terms
abbrev pub types_listed : Option FoundTypes → List (Option TyNo)
types_listed None = []
types_listed (Some t) = t.types

-- the diagnostics
abbrev pub faults_listed : Option FoundTypes → List Fault
faults_listed None = []
faults_listed (Some t) = t.faults

-- the types of the terms of a command
abbrev pub types_found : Option Found → List (Option TyNo)
types_found f = types_listed (types_of_found f)

-- the diagnostics of the types and terms of a command
abbrev pub faults_found : Option Found → List Fault
faults_found f = faults_listed (types_of_found f)

-- ---- the contents of rows

-- the total length of pieces in bytes
abbrev pub bytes_of : List Row → ℕ
bytes_of [] = 0
bytes_of (r ∷ rows) = r.end + bytes_of rows

-- the first span that this function gives for a row
abbrev pub first_in : (Option Found → Option Span) → List Row → Option Span
first_in f [] = None
first_in f (r ∷ rows) = option_or (f (found_in r)) (first_in f rows)

-- the span of the type over the size limit: the first written type, or else the first term
abbrev pub first_large : List Row → Option Span
first_large rows = option_or (first_in large_written_type rows) (first_in large_term rows)

-- the types of all terms
abbrev pub all_types : List Row → List (Option TyNo)
all_types rows = flat_map (λ r. types_found (found_in r)) rows

-- all type diagnostics, row by row
abbrev pub all_faults : List Row → List Fault
all_faults rows = flat_map (λ r. faults_found (found_in r)) rows

-- all lexical and syntactic diagnostics, row by row
abbrev pub all_syntax : List Row → List Fault
all_syntax rows = flat_map (λ r. r.syntax) rows

-- ---- moved forward in a text

-- a span, moved forward by n bytes
abbrev pub span_after : ℕ → Span → Span
span_after n = span_placed (λ o. o + n)

-- the span in the text of a span in the piece that starts at this byte
abbrev pub place_after : ℕ × Span → Span
place_after p = span_after p.0 p.1

-- a diagnostic, moved forward
abbrev pub fault_after : ℕ → Fault → Fault
fault_after n f = record { code = f.code; span = span_after n f.span }

-- the offsets of a span fit in 64 bits
abbrev pub Fits : Span → Type 0
Fits s = (s.start < 2 ^ 64) × (s.end < 2 ^ 64)

-- the spans of all these diagnostics fit
abbrev pub AllFit : List Fault → Type 0
AllFit fs = All (λ f. Fits f.span) fs

-- a command, moved forward with all its tokens
abbrev pub command_after : ℕ → CommandTree → CommandTree
command_after n = respelled_command (λ o. o + n) (λ kind text span. text)

-- the types of a command, with moved diagnostics
abbrev pub found_types_after : ℕ → FoundTypes → FoundTypes
found_types_after n t = record { types = t.types; faults = map (fault_after n) t.faults; bound = t.bound }

-- what was found for a command, moved forward
abbrev pub found_after : ℕ → Found → Found
found_after n (written_too_large s) = written_too_large (span_after n s)
found_after n (term_too_large s) = term_too_large (span_after n s)
found_after n (typed t) = typed (found_types_after n t)

-- what is kept of a command, moved forward
abbrev pub command_row_after : ℕ → CommandRow → CommandRow
command_row_after n k = record { free_numbers = k.free_numbers; binds = k.binds; found = found_after n k.found }

-- what is kept of a piece, moved forward
abbrev pub row_after : ℕ → Row → Row
row_after n r = record { end = r.end + n; syntax = map (fault_after n) r.syntax; command = option_map (command_row_after n) r.command }

-- rows one after another in a text, the first of which begins at this byte
abbrev pub placed : ℕ → List Row → List Row
placed n [] = []
placed n (r ∷ rows) = row_after n r ∷ placed (r.end + n) rows
