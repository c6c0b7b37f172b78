-- The row of a piece, wherever the piece is in a text. For private functions only.
use Rattle.std.specs.Prelude.{◌≡◌, ℕ, List, [], ◌∷◌, ◌++◌, length, All, Contains, flat_map, Option, Some, None}
use Rattle.std.specs.Str.{IsUtf8}
use Rattle.lam_token.specs.declared.kind.Kind.TheVariants.{Semicolon}
use Rattle.lam_token.specs.Cut.{AreTokensOf}
use Rattle.lam_token.specs.Lexeme.{Lexeme, kind_of, end_of as token_end}
use Rattle.lam_rules.specs.Types.{Typ}
use Rattle.lam_rules.specs.declared.rules.Dialect.{Dialect}
use Rattle.lam_syntax.specs.Trees.{CommandTree}
use Rattle.lam_scope.specs.FreeNames.{free_in_command, free_type_names_in_command}
use Rattle.lam_scope.specs.Names.{Name}
use Rattle.lam_query.specs.declared.bound.Bound.{Bound}
use Rattle.lam_query.specs.declared.bound.NameNo.{NameNo}
use Rattle.lam_query.specs.declared.bound.NameNo.TheVariants.{Name as NameNumber, TypeName as TypeNameNumber}
use Rattle.lam_query.specs.SyntaxFaults.{AreSyntaxFaults}
use Rattle.lam_query.specs.inner.Bound.{number_of, IsBinding}
use Rattle.lam_query.specs.inner.Entered.{Lookup}
use Rattle.lam_query.specs.inner.Kept.{CommandRow, Row}
use Rattle.lam_query.specs.inner.OnePiece.{HaveNoSemicolon, IsOwnOf}
use Rattle.lam_query.specs.inner.Rows.{unbound, names_with, types_with, IsKeptOf}

-- ---- meanings of names

-- the meanings of names and type names where a piece starts
pub record Sight : Type 0 where
  pub names : Lookup
  pub types : Lookup

-- at the start of a text nothing is bound
abbrev pub outset : Sight
outset = record { names = unbound; types = unbound }

-- the meanings after a piece that has these commands
abbrev pub sight_with : Sight → List CommandTree → List Typ → Option CommandRow → Sight
sight_with s own ts r = record { names = names_with own ts r s.names; types = types_with own ts r s.types }

-- ---- one piece

-- the last token of the piece is a semicolon, at its end
pub record IsEnded (piece : List ℕ) : Type 0 where
  pub tokens : List Lexeme
  pub semicolon : Lexeme
  pub are : AreTokensOf piece (tokens ++ semicolon ∷ [])
  pub kind : kind_of semicolon ≡ Semicolon
  pub ends : token_end semicolon ≡ length piece

-- the tokens of a piece, but for a semicolon at its end
pub data AreTokensIn (piece : List ℕ) (tokens : List Lexeme) : Type 0 where
  before_semicolon : (t : Lexeme) → AreTokensOf piece (tokens ++ t ∷ []) → kind_of t ≡ Semicolon → token_end t ≡ length piece → AreTokensIn piece tokens
  alone : AreTokensOf piece tokens → AreTokensIn piece tokens

-- each free name and type name of a command has a number, which is in the list
pub record AreFreeNumbers (b : Bound) (c : CommandTree) (free_numbers : List NameNo) : Type 0 where
  pub names : (x : Name) → Contains (free_in_command c) x → (n : ℕ) × (number_of b.names x ≡ Some n) × Contains free_numbers (NameNumber n)
  pub types : (x : Name) → Contains (free_type_names_in_command c) x → (n : ℕ) × (number_of b.type_names x ≡ Some n) × Contains free_numbers (TypeNameNumber n)

-- the numbers in a row are those of the names that are free in its command and that it binds
abbrev pub AreItsNumbers : Bound → List CommandTree → Option CommandRow → Type 0
AreItsNumbers b [] None = Unit {0}
AreItsNumbers b (c ∷ []) (Some k) = IsBinding b c k.binds × AreFreeNumbers b c k.free_numbers
AreItsNumbers b own r = ⊥

-- The row of a piece before which names have these meanings, with its commands: one, or none.
pub record IsPieceRow (piece : List ℕ) (s : Sight) (own : List CommandTree) (r : Row) (ts : List Typ) (b : Bound) (d : Dialect) : Type 0 where
  pub counted : r.end ≡ length piece
  pub is_text : IsUtf8 piece
  pub tokens : List Lexeme
  pub are : AreTokensIn piece tokens
  pub one_piece : HaveNoSemicolon tokens
  pub is_own : IsOwnOf tokens own
  pub syntax : AreSyntaxFaults tokens r.syntax
  pub kept : IsKeptOf s.names s.types own ts r.command d
  pub numbers : AreItsNumbers b own r.command

-- ---- several pieces

-- the rows of these pieces, with the meanings of names before and after them
abbrev pub AreRows : Sight → List (List ℕ) → List Row → Sight → List Typ → Bound → Dialect → Type 0
AreRows s [] [] last ts b d = s ≡ last
AreRows s (piece ∷ pieces) (r ∷ rows) last ts b d =
    (own : List CommandTree) × IsPieceRow piece s own r ts b d × AreRows (sight_with s own ts r.command) pieces rows last ts b d
AreRows s pieces rows last ts b d = ⊥

-- pieces joined in order
abbrev pub joined : List (List ℕ) → List ℕ
joined pieces = flat_map (λ piece. piece) pieces

-- a text consists of these pieces: each but the last ends with a semicolon
pub record IsMadeUpOf (text : List ℕ) (ended : List (List ℕ)) (last : List ℕ) : Type 0 where
  pub whole : text ≡ joined (ended ++ last ∷ [])
  pub all_ended : All IsEnded ended
  pub not_ended : IsEnded last → ⊥
