-- The commands of a text.
use Rattle.std.specs.Prelude.{◌≡◌, ◌⊎◌, ℕ, List, [], ◌∷◌}
use Rattle.lam_token.specs.Lexeme.{Lexeme}
use Rattle.lam_token.specs.Cut.{AreTokensOf}
use Rattle.lam_syntax.specs.Trees.{CommandTree}
use Rattle.lam_syntax.specs.Grammar.{Spells}
use Rattle.lam_syntax.specs.Answers.{IsLexed, pieces_of}

-- a piece is a command: it has few enough tokens, none is bad, and they derive that tree
pub record IsCommandOf (piece : List Lexeme) (c : CommandTree) : Type 0 where
  pub taken : IsLexed piece
  pub spelled : Spells piece c

-- the commands of pieces, in order; a piece that is no command is skipped
abbrev pub AreCommandsOf : List (List Lexeme) → List CommandTree → Type 0
AreCommandsOf [] commands = commands ≡ []
AreCommandsOf (piece ∷ pieces) commands =
    ((c : CommandTree) × (rest : List CommandTree) × (commands ≡ c ∷ rest) × IsCommandOf piece c × AreCommandsOf pieces rest)
    ⊎ (((c : CommandTree) → IsCommandOf piece c → ⊥) × AreCommandsOf pieces commands)

-- the commands of a text, given as bytes
pub record AreCommandsOfText (text : List ℕ) (commands : List CommandTree) : Type 0 where
  pub tokens : List Lexeme
  pub are_tokens : AreTokensOf text tokens
  pub are_commands : AreCommandsOf (pieces_of tokens) commands
