-- The piece around an offset among the tokens and the commands of its text.
use Rattle.std.proofs.Common.{◌≡◌, ℕ, ◌+◌, ◌<◌, ◌≤◌, true, List, ◌∷◌, [], ◌++◌, None}
use Rattle.std.specs.List.{AllByRecursion}
use Rattle.std.specs.Option.{option_map}
use Rattle.lam_token.specs.Lexeme.{Lexeme, start_of}
use Rattle.lam_syntax.specs.Answers.{pieces_of}
use Rattle.lam_syntax.specs.Trees.{CommandTree}
use Rattle.lam_scope.specs.PlacedTerms.{variable_at, projection_at}
use Rattle.lam_query.specs.declared.analyses.Analysis.{Analysis}
use Rattle.lam_query.specs.declared.pieces.PieceAt.{PieceAt}
use Rattle.lam_query.specs.Commands.{AreCommandsOf}
use Rattle.lam_query.specs.Completions.{is_in_front, is_behind}
use Rattle.lam_query.specs.inner.Around.{IsPieceAround, first_term}
use Rattle.lam_query.specs.inner.OnePiece.{EndInSemicolon, BeginWithSemicolon, HaveNoSemicolon, IsOwnOf}

-- The tokens of the text are those before the piece, the piece's own and those after it, and so it is with its commands. All tokens before the piece are in front of the
-- offset, and all after it behind. With other tokens in the piece, none of them a semicolon, their command takes the place of the piece's own in the text.
pub record IsInText {text : List ℕ} {offset : ℕ} {a : Analysis} {p : PieceAt} (here : IsPieceAround text offset a p) (tokens : List Lexeme) (commands : List CommandTree) : Type 0 where
  pub before : List Lexeme
  pub after : List Lexeme
  pub divides : tokens ≡ before ++ (here.around.is_row.tokens ++ after)
  pub ends : EndInSemicolon before
  pub begins : BeginWithSemicolon after
  pub in_front : AllByRecursion (λ t. is_in_front offset t ≡ true) before
  pub behind : AllByRecursion (λ t. is_behind offset t ≡ true) after
  pub rest : List CommandTree
  pub are : commands ≡ here.around.front.commands ++ (here.around.own ++ rest)
  pub replaced : (others : List Lexeme) (own : List CommandTree) → HaveNoSemicolon others → IsOwnOf others own
      → AreCommandsOf (pieces_of (before ++ (others ++ after))) (here.around.front.commands ++ (own ++ rest))
  -- in the commands of the text, with this one in place of the piece's own, the variable and the projection whose token begins in the piece are its own
  pub variable_there : (t : Lexeme) (c : CommandTree) → (others : List Lexeme) → HaveNoSemicolon others → IsOwnOf others (c ∷ [])
      → p.start ≤ start_of t → AllByRecursion (λ u. start_of t < start_of u) after
      → variable_at (start_of t) (here.around.front.commands ++ (c ∷ rest)) ≡ option_map (λ n. first_term here + n) (variable_at (start_of t) (c ∷ []))
  pub projection_there : (t : Lexeme) (c : CommandTree) → (others : List Lexeme) → HaveNoSemicolon others → IsOwnOf others (c ∷ [])
      → p.start ≤ start_of t → AllByRecursion (λ u. start_of t < start_of u) after
      → projection_at (start_of t) (here.around.front.commands ++ (c ∷ rest)) ≡ option_map (λ n. first_term here + n) (projection_at (start_of t) (c ∷ []))
  -- a piece that is no command has neither
  pub no_variable_there : (t : Lexeme) → here.around.own ≡ [] → p.start ≤ start_of t → AllByRecursion (λ u. start_of t < start_of u) after
      → variable_at (start_of t) commands ≡ None
  pub no_projection_there : (t : Lexeme) → p.start ≤ start_of t → AllByRecursion (λ u. start_of t < start_of u) after
      → projection_at (start_of t) (here.around.front.commands ++ rest) ≡ None
  -- the tokens of the piece stand before those after it
  pub own_before : AllByRecursion (λ t. AllByRecursion (λ u. start_of t < start_of u) after) here.around.is_row.tokens
  pub own_inside : AllByRecursion (λ t. p.start ≤ start_of t) here.around.is_row.tokens
