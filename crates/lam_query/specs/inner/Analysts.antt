-- Analyses under construction, which read their text piece by piece. For private functions only.
use Rattle.std.specs.Prelude.{◌≡◌, ◌<◌, ◌+◌, ℕ, Bool, true, false, List, [], ◌∷◌, ◌++◌, length, All, Option}
use Rattle.std.specs.Str.{IsUtf8}
use Rattle.lam_rules.specs.Types.{Typ}
use Rattle.lam_rules.specs.Numbers.{Keeps}
use Rattle.lam_syntax.specs.Trees.{CommandTree}
use Rattle.lam_scope.specs.Names.{Name}
use Rattle.lam_typing.specs.Checking.{types_in, dialect_in, IsSoundChecker}
use Rattle.lam_query.specs.declared.analyses.Analyst.{Analyst}
use Rattle.lam_query.specs.declared.bound.Bound.{Bound}
use Rattle.lam_query.specs.inner.Bound.{found_over, AllStand, HaveNumbers, KeepsNumbers}
use Rattle.lam_query.specs.inner.Entered.{Lookup}
use Rattle.lam_query.specs.inner.Kept.{CommandRow, Row, rows_of}
use Rattle.lam_query.specs.inner.PieceRows.{Sight, sight_with, AreTokensIn, IsEnded, AreItsNumbers, IsPieceRow, AreRows, joined}
use Rattle.lam_query.specs.inner.Reading.{AreRead}
use Rattle.lam_query.specs.inner.Rows.{names_with, types_with, IsKeptOf}

-- its type checker is sound, each type id that it keeps stands for a type, and each name has a number of its own
pub record IsSound (a : Analyst) : Type 0 where
  pub types : IsSoundChecker a.types
  pub stand : AllStand (types_in a.types) a.bound
  pub numbers : HaveNumbers a.bound

-- the meanings of names and type names, over the type table
pub record IsBoundAs (of_names of_types : Lookup) (ts : List Typ) (b : Bound) : Type 0 where
  pub names : (x : Name) → found_over ts b.names x ≡ of_names x
  pub types : (x : Name) → found_over ts b.type_names x ≡ of_types x

-- no tokens of a further piece have been read
pub record IsBetweenPieces (a : Analyst) : Type 0 where
  pub nothing_read : AreRead [] [] a.reader
  pub no_piece : a.reader.piece.items ≡ []

-- This is kept of the command of the next piece, if it has one, and names now mean what they mean after it.
pub record IsKeptBy (own : List CommandTree) (row : Option CommandRow) (old now : Analyst) : Type 0 where
  pub keeps : Keeps (types_in old.types) (types_in now.types)
  pub numbers : KeepsNumbers old.bound now.bound
  pub kept : (names types : Lookup) → IsBoundAs names types (types_in old.types) old.bound → IsKeptOf names types own (types_in now.types) row (dialect_in now.types)
  pub its_numbers : AreItsNumbers now.bound own row
  pub bound : (names types : Lookup) → IsBoundAs names types (types_in old.types) old.bound
      → IsBoundAs (names_with own (types_in now.types) row names) (types_with own (types_in now.types) row types) (types_in now.types) now.bound
  pub rows : now.rows ≡ old.rows
  pub reader : now.reader ≡ old.reader
  pub end : now.end ≡ old.end
  pub bytes_read : now.bytes_read ≡ old.bytes_read

-- the row of one more piece is added, before which names have these meanings
pub record IsRowAdded (piece : List ℕ) (s : Sight) (old now : Analyst) : Type 0 where
  pub own : List CommandTree
  pub row : Row
  pub rows : rows_of now.rows.items ≡ rows_of old.rows.items ++ row ∷ []
  pub is_row : IsPieceRow piece s own row (types_in now.types) now.bound (dialect_in now.types)
  pub bound : let behind = sight_with s own (types_in now.types) row.command in IsBoundAs behind.names behind.types (types_in now.types) now.bound

-- the tokens that were read are those of a piece of this many bytes, and its row is kept
pub record IsPieceEnded (bytes : ℕ) (old now : Analyst) : Type 0 where
  pub between : IsBetweenPieces now
  pub end : now.end ≡ old.end + bytes
  pub keeps : Keeps (types_in old.types) (types_in now.types)
  pub numbers : KeepsNumbers old.bound now.bound
  pub added : (piece : List ℕ) (s : Sight) → bytes ≡ length piece → IsUtf8 piece → AreTokensIn piece old.reader.piece.items → AreRead [] [] old.reader
      → IsBoundAs s.names s.types (types_in old.types) old.bound → IsRowAdded piece s old now

-- After these bytes of a text, where names have these meanings, pieces that all end with a semicolon were read, and this is left.
pub record IsReadTo (ahead : List ℕ) (s : Sight) (text rest : List ℕ) (a : Analyst) : Type 0 where
  pub ahead_is_text : IsUtf8 ahead
  pub pieces : List (List ℕ)
  pub divides : text ≡ ahead ++ (joined pieces ++ rest)
  pub all_ended : All IsEnded pieces
  pub end : a.end ≡ length (ahead ++ joined pieces)
  pub sight : Sight
  pub rows : AreRows s pieces (rows_of a.rows.items) sight (types_in a.types) a.bound (dialect_in a.types)
  pub bound : IsBoundAs sight.names sight.types (types_in a.types) a.bound
  pub between : IsBetweenPieces a

-- all pieces were read: each but the last ends with a semicolon
pub record IsReadThrough (ahead : List ℕ) (s : Sight) (text : List ℕ) (a : Analyst) : Type 0 where
  pub ended : List (List ℕ)
  pub last : List ℕ
  pub divides : text ≡ ahead ++ joined (ended ++ last ∷ [])
  pub all_ended : All IsEnded ended
  pub not_ended : IsEnded last → ⊥
  pub sight : Sight
  pub rows : AreRows s (ended ++ last ∷ []) (rows_of a.rows.items) sight (types_in a.types) a.bound (dialect_in a.types)

-- one more piece was read: less is left, or it was the last one
abbrev pub IsReadOn : Bool → (ahead : List ℕ) (s : Sight) (text rest : List ℕ) → Analyst → Type 0
IsReadOn true ahead s text rest a = (left : List ℕ) × (length left < length rest) × IsReadTo ahead s text left a
IsReadOn false ahead s text rest a = IsReadThrough ahead s text a
