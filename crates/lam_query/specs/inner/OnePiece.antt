-- One piece of a text, between what precedes it and the rest.
use Rattle.std.specs.Prelude.{◌≡◌, ◌⊎◌, ℕ, ◌+◌, ◌<◌, ◌≤◌, true, false, List, [], ◌∷◌, ◌++◌, length, get_or, Option, Some, None}
use Rattle.std.specs.List.{AllByRecursion}
use Rattle.std.specs.Str.{IsUtf8}
use Rattle.lam_rules.specs.Types.{Typ}
use Rattle.lam_rules.specs.Texts.{text}
use Rattle.lam_token.specs.declared.kind.Kind.TheVariants.{Semicolon}
use Rattle.lam_token.specs.Lexeme.{Lexeme, kind_of, end_of}
use Rattle.lam_token.specs.Cut.{AreTokensFrom, AreTokensOf}
use Rattle.lam_token.specs.Divided.{EndsInSemicolon}
use Rattle.lam_syntax.specs.Trees.{CommandTree}
use Rattle.lam_syntax.specs.Answers.{is_semicolon}
use Rattle.lam_scope.specs.Tables.{table, place_at, place_row_numbered}
use Rattle.lam_query.specs.Commands.{IsCommandOf}
use Rattle.lam_query.specs.Hovers.{Shown}

-- no tokens, or tokens that end with a semicolon
abbrev pub EndInSemicolon : List Lexeme → Type 0
EndInSemicolon [] = Unit {0}
EndInSemicolon (t ∷ []) = is_semicolon t ≡ true
EndInSemicolon (t ∷ u ∷ ts) = EndInSemicolon (u ∷ ts)

-- no tokens, or tokens that start with a semicolon
abbrev pub BeginWithSemicolon : List Lexeme → Type 0
BeginWithSemicolon [] = Unit {0}
BeginWithSemicolon (t ∷ ts) = is_semicolon t ≡ true

-- none of the tokens is a semicolon
abbrev pub HaveNoSemicolon : List Lexeme → Type 0
HaveNoSemicolon = AllByRecursion (λ t. is_semicolon t ≡ false)

-- the command that one piece is, or none
pub data IsOwnOf (tokens : List Lexeme) : List CommandTree → Type 0 where
  one_command : {c : CommandTree} → IsCommandOf tokens c → IsOwnOf tokens (c ∷ [])
  no_command : ((c : CommandTree) → IsCommandOf tokens c → ⊥) → IsOwnOf tokens []

-- The piece that starts at a byte offset has these tokens, followed by a semicolon at its end; or, if nothing is left of the text, only these.
pub data ArePieceTokens (start : ℕ) (piece rest : List ℕ) (tokens : List Lexeme) : Type 0 where
  before_semicolon : (t : Lexeme) → AreTokensFrom start piece (tokens ++ t ∷ []) → kind_of t ≡ Semicolon → end_of t ≡ start + length piece
      → ArePieceTokens start piece rest tokens
  at_end : AreTokensFrom start piece tokens → rest ≡ [] → ArePieceTokens start piece rest tokens

-- A text consists of what precedes a piece, the piece, and the rest. What precedes it is empty or ends with a semicolon; the piece ends with a semicolon, or nothing is
-- left, and it has no other semicolon.
pub record IsPieceOf (whole ahead piece rest : List ℕ) (tokens : List Lexeme) : Type 0 where
  pub divides : whole ≡ ahead ++ (piece ++ rest)
  pub is_front : IsUtf8 ahead
  pub is_piece : IsUtf8 piece
  pub front : List Lexeme
  pub are_front : AreTokensOf ahead front
  pub ends : (ahead ≡ []) ⊎ EndsInSemicolon ahead front
  pub are_own : ArePieceTokens (length ahead) piece rest tokens
  pub one_piece : HaveNoSemicolon tokens

-- an offset in the piece, or after it if nothing is left
pub record IsOffsetIn (offset : ℕ) (ahead piece rest : List ℕ) : Type 0 where
  pub from_its_start : length ahead ≤ offset
  pub to_its_end : (offset < length ahead + length piece) ⊎ (rest ≡ [])

-- The hover at an offset from the command there alone, given the number of terms before it and the types of all terms: the type of the innermost term around the offset
-- in the command, by its number among all. Nothing if the command has no term there, or that has no type.
pub data IsShownInCommand (c : CommandTree) (before : ℕ) (found : List (Option Typ)) (offset : ℕ) : Option Shown → Type 0 where
  by_no_term : place_at (table (c ∷ [])) offset ≡ None → IsShownInCommand c before found offset None
  by_no_type : {n : ℕ} → place_at (table (c ∷ [])) offset ≡ Some n
      → get_or found (before + n) None ≡ None → IsShownInCommand c before found offset None
  by_type : {n : ℕ} {type : Typ} {shown : Shown} → place_at (table (c ∷ [])) offset ≡ Some n
      → get_or found (before + n) None ≡ Some type → shown.text ≡ text type → shown.span ≡ (place_row_numbered (table (c ∷ [])) n).span
      → IsShownInCommand c before found offset (Some shown)

-- The hover at an offset from its piece: nothing if that is not a command.
pub data IsShownByPiece (tokens : List Lexeme) (before : ℕ) (found : List (Option Typ)) (offset : ℕ) : Option Shown → Type 0 where
  by_no_command : ((c : CommandTree) → IsCommandOf tokens c → ⊥) → IsShownByPiece tokens before found offset None
  by_command : {c : CommandTree} {shown : Option Shown} → IsCommandOf tokens c → IsShownInCommand c before found offset shown
      → IsShownByPiece tokens before found offset shown
