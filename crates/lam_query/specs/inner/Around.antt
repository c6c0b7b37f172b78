-- The piece of an analysed text around an offset. For private functions only.
use Rattle.std.specs.Prelude.{◌≡◌, ◌<◌, ℕ, List, [], ◌∷◌, length, take, slice_range}
use Rattle.lam_syntax.specs.Trees.{CommandTree}
use Rattle.lam_scope.specs.Names.{Name}
use Rattle.lam_scope.specs.PlacedTerms.{document_terms}
use Rattle.lam_typing.specs.Checking.{types_in}
use Rattle.lam_query.specs.declared.analyses.Analysis.{Analysis}
use Rattle.lam_query.specs.declared.pieces.PieceAt.{PieceAt}
use Rattle.lam_query.specs.declared.stand_ins.Alone.{Alone}
use Rattle.lam_query.specs.inner.Kept.{rows_of, placed}
use Rattle.lam_query.specs.inner.PieceRows.{Sight, outset, AreRows}
use Rattle.lam_query.specs.inner.Rows.{IsRowAround}
use Rattle.lam_query.specs.inner.StandIns.{IsAlone}

-- The piece of the row around the offset, before which names and type names have these meanings, by the rows before.
pub record IsPieceAround (text : List ℕ) (offset : ℕ) (a : Analysis) (p : PieceAt) : Type 0 where
  pub inside : p.number < length a.rows.items
  pub around : IsRowAround text offset (placed 0 (rows_of a.rows.items)) (record { start = p.start; number = p.number }) (types_in a.types) a.dialect
  pub rows_before : around.before ≡ placed 0 (rows_of (take p.number a.rows.items))
  pub letters : p.text.now ≡ slice_range text around.front.end around.row.end
  pub sight : Sight
  pub pieces : List (List ℕ)
  pub before : AreRows outset pieces (rows_of (take p.number a.rows.items)) sight (types_in a.types) a.bound a.dialect
  pub names : (x : Name) → around.front.names x ≡ sight.names x
  pub types : (x : Name) → around.front.types x ≡ sight.types x

-- This is the command of the piece.
pub record IsCommandAround (text : List ℕ) (offset : ℕ) (a : Analysis) (p : PieceAt) (c : CommandTree) : Type 0 where
  pub here : IsPieceAround text offset a p
  pub own : here.around.own ≡ c ∷ []

-- The command alone, in which names mean what they mean in the text.
pub record IsAloneAround (text : List ℕ) (offset : ℕ) (a : Analysis) (p : PieceAt) (c : CommandTree) (alone : Alone) : Type 0 where
  pub there : IsCommandAround text offset a p c
  pub is_alone : IsAlone there.here.sight c alone

-- the number of the first term of the piece among those of the text
abbrev pub first_term : {text : List ℕ} {offset : ℕ} {a : Analysis} {p : PieceAt} → IsPieceAround text offset a p → ℕ
first_term here = length (document_terms here.around.front.commands)
