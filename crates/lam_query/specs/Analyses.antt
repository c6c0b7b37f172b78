-- Analyses of texts.
use Rattle.std.specs.Prelude.{◌≡◌, ℕ, List, ◌∷◌, [], ◌++◌, map, None}
use Rattle.std.specs.Str.{IsUtf8}
use Rattle.lam_rules.specs.declared.rules.Dialect.{Dialect}
use Rattle.lam_typing.specs.Checking.{types_in, dialect_in, IsSoundChecker}
use Rattle.lam_query.specs.declared.analyses.Analysis.{Analysis}
use Rattle.lam_query.specs.Views.{fault_of}
use Rattle.lam_query.specs.inner.Bound.{HaveNumbers}
use Rattle.lam_query.specs.inner.Kept.{rows_of, placed, first_large, all_syntax, all_faults}
use Rattle.lam_query.specs.inner.PieceRows.{Sight, outset, AreRows, IsMadeUpOf}

-- the dialect of an analysis
abbrev pub dialect_of : Analysis → Dialect
dialect_of a = a.dialect

-- the number of commands typed by the last analysis from scratch and since then, as the analysis counts them
abbrev pub commands_typed : Analysis → ℕ
commands_typed a = a.commands_typed

-- An analysis of a text has a row for each piece, with the types found in its command; the span of the type over the size limit, if any; and the lexical, syntactic and
-- (if no type is over the limit) type diagnostics.
pub record IsAnalysisOf (text : List ℕ) (a : Analysis) : Type 0 where
  pub is_text : IsUtf8 text
  pub ended : List (List ℕ)
  pub last : List ℕ
  pub made_up : IsMadeUpOf text ended last
  pub sight : Sight
  pub rows : AreRows outset (ended ++ last ∷ []) (rows_of a.rows.items) sight (types_in a.types) a.bound a.dialect
  pub large : a.row_faults.large ≡ first_large (placed 0 (rows_of a.rows.items))
  pub syntax : map fault_of a.row_faults.syntax.items ≡ all_syntax (placed 0 (rows_of a.rows.items))
  pub found : a.row_faults.large ≡ None → map fault_of a.row_faults.types.items ≡ all_faults (placed 0 (rows_of a.rows.items))
  pub sound : IsSoundChecker a.types
  pub dialect : dialect_in a.types ≡ a.dialect
  pub numbers : HaveNumbers a.bound
