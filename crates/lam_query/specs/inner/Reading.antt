-- Reading the tokens of a text one by one. For private functions only.
use Rattle.std.specs.Prelude.{◌≡◌, Bool, true, false, IsTrue, IsFalse, length, List, [], ◌∷◌, ◌++◌, ℕ, map, filter, codes, All, Option, Some, None}
use Rattle.std.specs.Option.{option_map, option_to_list}
use Rattle.std.specs.List.{filter_map}
use Rattle.std.specs.Str.{IsUtf8}
use Rattle.lam_token.specs.declared.kind.Kind.TheVariants as kind
use Rattle.lam_token.specs.Lexeme.{Lexeme, lexeme_at}
use Rattle.lam_token.specs.Cut.{AreTokensOf, StandsIn}
use Rattle.lam_syntax.specs.Trees.{CommandTree}
use Rattle.lam_syntax.specs.Answers.{pieces_of}
use Rattle.lam_syntax.specs.Views.{command_of}
use Rattle.lam_syntax.specs.declared.terms.Command.{Command}
use Rattle.lam_query.specs.declared.reading.Piece.{Piece}
use Rattle.lam_query.specs.declared.reading.Piece.TheVariants as piece
use Rattle.lam_query.specs.declared.reading.Parsed.{Parsed}
use Rattle.lam_query.specs.declared.reading.PieceEnd.{PieceEnd}
use Rattle.lam_query.specs.declared.reading.Reader.{Reader}
use Rattle.lam_query.specs.declared.reading.Collector.{Collector}
use Rattle.lam_query.specs.Commands.{IsCommandOf, AreCommandsOf}
use Rattle.lam_query.specs.Completions.{is_in_front, is_behind}
use Rattle.lam_query.specs.Faults.{Fault}
use Rattle.lam_query.specs.SyntaxFaults.{fault_of_token, PieceFaults, AreSyntaxFaults}
use Rattle.lam_query.specs.Views.{fault_of}
use Rattle.lam_query.specs.inner.OnePiece.{EndInSemicolon, HaveNoSemicolon}
use Rattle.lam_query.specs.inner.PieceRows.{IsEnded, AreTokensIn}

-- the command that the tokens derive, or they derive none
abbrev pub IsCommandRead : List Lexeme → Piece → Type 0
IsCommandRead ts (piece.Command command) = IsCommandOf ts (command_of command)
IsCommandRead ts _ = (c : CommandTree) → IsCommandOf ts c → ⊥

-- the diagnostic of the piece as a whole, if it has one
abbrev pub fault_read : Piece → Option Fault
fault_read (piece.Fault fault) = Some (fault_of fault)
fault_read _ = None

-- the command that was read, if there is one
abbrev pub own_of : Option Command → List CommandTree
own_of command = option_to_list (option_map command_of command)

-- The tokens up to the last semicolon, with their commands, followed by those of the current piece.
pub record AreRead (front : List Lexeme) (done : List CommandTree) (reader : Reader) : Type 0 where
  pub ends : EndInSemicolon front
  pub one_piece : HaveNoSemicolon reader.piece.items
  pub commands : AreCommandsOf (pieces_of front) done
  pub piece_faults : PieceFaults (pieces_of front) (map fault_of reader.piece_faults.items)
  pub token_faults : map fault_of reader.token_faults.items ≡ filter_map fault_of_token (front ++ reader.piece.items)

-- The piece was read to its end: its command and the others are those of all tokens, and so are the diagnostics.
pub record AreAllRead (tokens : List Lexeme) (all : List CommandTree) (reader : Reader) : Type 0 where
  pub commands : AreCommandsOf (pieces_of tokens) all
  pub faults : AreSyntaxFaults tokens (map fault_of reader.token_faults.items ++ map fault_of reader.piece_faults.items)

-- the lexical error that the token is was recorded, if it is one, and nothing else
pub record IsNoted (t : Lexeme) (before now : Reader) : Type 0 where
  pub token_faults : map fault_of now.token_faults.items ≡ map fault_of before.token_faults.items ++ option_to_list (fault_of_token t)
  pub piece : now.piece ≡ before.piece
  pub piece_faults : now.piece_faults ≡ before.piece_faults

-- Of all these tokens, those left have not been read; these are the commands up to the last semicolon that was read.
pub record AreReadBut (all left : List Lexeme) (done : List CommandTree) (reader : Reader) : Type 0 where
  pub front : List Lexeme
  pub read : AreRead front done reader
  pub are_all : all ≡ front ++ (reader.piece.items ++ left)

-- the same, with the commands that were collected
abbrev pub AreCollected : (all : List Lexeme) → Collector → (left : List Lexeme) → Type 0
AreCollected all c left = AreReadBut all left (map command_of c.commands.items) c.reader

-- the name that stands for a label, at the byte of the dot, before these tokens, unless it was added already
abbrev pub with_name_unless : (taken : Bool) → (dot : ℕ) → List Lexeme → List Lexeme
with_name_unless true dot left = left
with_name_unless false dot left = lexeme_at kind.Name (codes "a") dot ∷ left

-- All tokens of a piece with the name among them, of which some are held and others left: those before the cursor and those after it, with the name between them unless
-- it was added. If it was, none before the cursor is left.
pub record AreHeldAround (all : List Lexeme) (offset dot : ℕ) (taken : Bool) (held left : List Lexeme) : Type 0 where
  pub are_all : all ≡ held ++ (filter (is_in_front offset) left ++ with_name_unless taken dot (filter (is_behind offset) left))
  pub none_in_front : taken ≡ true → filter (is_in_front offset) left ≡ []

-- the commands and diagnostics are those of the text's tokens, which start and end between characters
pub record IsRead (text : List ℕ) (parsed : Parsed) : Type 0 where
  pub tokens : List Lexeme
  pub are_tokens : AreTokensOf text tokens
  pub whole : All (StandsIn text) tokens
  pub commands : AreCommandsOf (pieces_of tokens) (map command_of parsed.commands.items)
  pub faults : AreSyntaxFaults tokens (map fault_of parsed.faults.items)

-- The next piece of the rest of a text, with these tokens before its semicolon: it ends with a semicolon and another piece follows, maybe an empty one; or it is the last
-- and does not.
pub record IsNextPiece (text : List ℕ) (end : PieceEnd) (tokens : List Lexeme) : Type 0 where
  pub piece : List ℕ
  pub behind : List ℕ
  pub divides : text ≡ piece ++ behind
  pub counted : end.bytes ≡ length piece
  pub is_text : IsUtf8 piece
  pub are : AreTokensIn piece tokens
  pub ended : IsTrue end.semicolon → IsEnded piece
  pub last : IsFalse end.semicolon → (behind ≡ []) × (IsEnded piece → ⊥)
