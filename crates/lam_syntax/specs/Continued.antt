-- Tokens that begin a command in some text.
use Rattle.std.specs.Prelude.{ℕ, List, ◌++◌}
use Rattle.std.specs.Str.{IsUtf8}
use Rattle.lam_token.specs.Lexeme.{Lexeme}
use Rattle.lam_token.specs.Cut.{AreTokensOf}
use Rattle.lam_syntax.specs.Trees.{CommandTree}
use Rattle.lam_syntax.specs.Grammar.{Spells}

-- Some text begins with the bytes `front`, and its tokens are those before, followed by a command that begins with `tokens`.
-- Here the tokens that follow must come from a text, whereas `Begins` allows any lexemes.
pub record IsContinued (front : List ℕ) (before tokens : List Lexeme) : Type 0 where
  pub more : List ℕ
  pub rest : List Lexeme
  pub command : CommandTree
  pub is_text : IsUtf8 (front ++ more)
  pub are_tokens : AreTokensOf (front ++ more) (before ++ (tokens ++ rest))
  pub is_command : Spells (tokens ++ rest) command
