-- The spans of a text's rows stand in it, so their bytes are within the greatest length.
use Rattle.std.proofs.Common.{◌≡◌, ℕ, ◌<◌, ◌^◌, List, [], length, Option, Some, None, refl, arith}
use Rattle.std.specs.List.{All}
use Rattle.std.specs.Prelude.{IfSome}
use Rattle.std.specs.Str.{IsUtf8}
use Rattle.std.proofs.lemmas.List.Sorted.{All-permutation}
use Rattle.lam_token.specs.declared.span.Span.{Span}
use Rattle.lam_rules.specs.Types.{Typ}
use Rattle.lam_rules.specs.declared.rules.Dialect.{Dialect}
use Rattle.lam_typing.specs.Checking.{types_in, dialect_in}
use Rattle.lam_query.specs.declared.analyses.Analysis.{Analysis}
use Rattle.lam_query.specs.declared.analyses.Analyst.{Analyst}
use Rattle.lam_query.specs.Analyses.{IsAnalysisOf}
use Rattle.lam_query.specs.Faults.{Fault}
use Rattle.lam_query.specs.Within.{IsSpanOfText}
use Rattle.lam_query.specs.inner.Analysts.{IsReadThrough}
use Rattle.lam_query.specs.inner.Kept.{Row, rows_of, placed, bytes_of, first_large, all_syntax, all_faults, Fits, AllFit}
use Rattle.lam_query.specs.inner.PieceRows.{outset}
use Rattle.lam_query.specs.inner.Rows.{nothing}
use Rattle.lam_query.proofs.FaultPlaces.{syntax_stands, types_stand, size_stands}
use Rattle.lam_query.proofs.KnownRows.{known_through, size_told, type_faults_told}
use Rattle.lam_query.proofs.RowsInText.{AreRowsOfText, in_text, read_in_text}
use Rattle.lam_query.proofs.RowsPlaced.{placed_ends}
use Rattle.lam_query.proofs.SpelledRows.{IsAllSpelled, whole_spelled}

span_fits : (text : List ℕ) (s : Span) → length text < 2 ^ 64 → IsSpanOfText text s → Fits s
span_fits text s short is = (omega (arith, is.0.0, short), omega (arith, is.1.0, short))

faults_fit : (text : List ℕ) (fs : List Fault) → length text < 2 ^ 64 → All (λ f. IsSpanOfText text f.span) fs → AllFit fs
faults_fit text fs short stand = λ k default lt. span_fits text _ short (stand k default lt)

module _ (text : List ℕ) (rows : List Row) (ts : List Typ) (d : Dialect) (is_text : IsUtf8 text) (short : length text < 2 ^ 64) (h : AreRowsOfText text rows ts d) where
  abbrev There : List Row
  There = placed 0 rows

  spelled : IsAllSpelled text h.front.commands There
  spelled = whole_spelled text There h.front ts d is_text h.are h.whole

  pub bytes_fit : bytes_of rows < 2 ^ 64
  bytes_fit = let end = placed_ends text nothing rows h.front ts d h.are in omega (arith, end, h.whole, short)

  pub large_fits : IfSome (first_large There) Fits
  large_fits = by (first_large There) refl
    where
      by : (o : Option Span) → first_large There ≡ o → IfSome o Fits
      by None none = tt
      by (Some s) is =
          span_fits text s short
          (size_stands text spelled.tokens is_text spelled.are_tokens h.front.commands spelled.are_commands d s (size_told text There h.front ts d s h.are is))

  pub syntax_fits : AllFit (all_syntax There)
  syntax_fits =
      faults_fit text (all_syntax There) short
      (All-permutation (λ f. IsSpanOfText text f.span) spelled.of_syntax (all_syntax There) spelled.same
      (syntax_stands text spelled.tokens is_text spelled.are_tokens spelled.of_syntax spelled.are_of_syntax))

  -- no type is too large
  pub types_fit : first_large There ≡ None → AllFit (all_faults There)
  types_fit none =
      let told = type_faults_told h.front There ts d (known_through text There h.front ts d h.are none) in
      faults_fit text (all_faults There) short
      (All-permutation (λ f. IsSpanOfText text f.span) told.0 (all_faults There) told.2
      (types_stand text spelled.tokens is_text spelled.are_tokens h.front.commands spelled.are_commands d told.0 told.1))

-- of rows that were read
module _ (text : List ℕ) (a : Analyst) (is_text : IsUtf8 text) (short : length text < 2 ^ 64) (read : IsReadThrough [] outset text a) where
  abbrev Read : List Row
  Read = rows_of a.rows.items

  there : AreRowsOfText text Read (types_in a.types) (dialect_in a.types)
  there = read_in_text text a read

  pub read_bytes_fit : bytes_of Read < 2 ^ 64
  read_bytes_fit = bytes_fit text Read (types_in a.types) (dialect_in a.types) is_text short there

  pub read_large_fits : IfSome (first_large (placed 0 Read)) Fits
  read_large_fits = large_fits text Read (types_in a.types) (dialect_in a.types) is_text short there

  pub read_syntax_fits : AllFit (all_syntax (placed 0 Read))
  read_syntax_fits = syntax_fits text Read (types_in a.types) (dialect_in a.types) is_text short there

  pub read_types_fit : first_large (placed 0 Read) ≡ None → AllFit (all_faults (placed 0 Read))
  read_types_fit = types_fit text Read (types_in a.types) (dialect_in a.types) is_text short there

-- of an analysis
pub all_bytes_fit : (text : List ℕ) (a : Analysis) → length text < 2 ^ 64 → IsAnalysisOf text a → bytes_of (rows_of a.rows.items) < 2 ^ 64
all_bytes_fit text a short h =
    let is = in_text text a h in
    bytes_fit text (rows_of a.rows.items) (types_in a.types) a.dialect h.is_text short (record { front = is.front; are = is.rows; whole = is.whole })

pub all_syntax_fit : (text : List ℕ) (a : Analysis) → length text < 2 ^ 64 → IsAnalysisOf text a → AllFit (all_syntax (placed 0 (rows_of a.rows.items)))
all_syntax_fit text a short h =
    let is = in_text text a h in
    syntax_fits text (rows_of a.rows.items) (types_in a.types) a.dialect h.is_text short (record { front = is.front; are = is.rows; whole = is.whole })

pub all_types_fit : (text : List ℕ) (a : Analysis) → length text < 2 ^ 64 → IsAnalysisOf text a → first_large (placed 0 (rows_of a.rows.items)) ≡ None
    → AllFit (all_faults (placed 0 (rows_of a.rows.items)))
all_types_fit text a short h none =
    let is = in_text text a h in
    types_fit text (rows_of a.rows.items) (types_in a.types) a.dialect h.is_text short (record { front = is.front; are = is.rows; whole = is.whole }) none
