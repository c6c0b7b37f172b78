-- The commands of a text stand in it.
use Rattle.std.proofs.Common.{ℕ, List, [], ◌∷◌, inl, inr}
use Rattle.std.specs.List.{All, AllByRecursion}
use Rattle.std.proofs.lemmas.List.Elements.{recursion_from_All}
use Rattle.lam_token.specs.declared.span.Span.{Span}
use Rattle.lam_token.specs.Lexeme.{Lexeme}
use Rattle.lam_token.specs.Cut as token
use Rattle.lam_syntax.specs.Trees.{CommandTree}
use Rattle.lam_syntax.specs.Answers.{pieces_of}
use Rattle.lam_query.specs.Commands.{AreCommandsOf}
use Rattle.lam_query.specs.Within.{IsSpanOfText}
use Rattle.lam_query.proofs.TreePlaces.{InCommands}
use Rattle.lam_query.proofs.TokensOfPieces.{InPieces, pieces_in}
use Rattle.lam_query.proofs.Spans.{AtPlace, InTokens, Spreads, in_command}

pub in_commands : (Q : Span → Type 0) → Spreads Q → (ps : List (List Lexeme)) (cs : List CommandTree) → InPieces (AtPlace Q) ps → AreCommandsOf ps cs → InCommands Q cs
in_commands Q w [] cs h are = rw are tt
in_commands Q w (p ∷ ps) cs h (inl are) = rw are.2 (in_command Q w p are.0 are.3.spelled h.0, in_commands Q w ps are.1 h.1 are.4)
in_commands Q w (p ∷ ps) cs h (inr are) = in_commands Q w ps cs h.1 are.1

by_tokens : (text : List ℕ) (ts : List Lexeme) → AllByRecursion (token.StandsIn text) ts → InTokens (IsSpanOfText text) ts
by_tokens text [] h = tt
by_tokens text (t ∷ ts) h = (h.0, by_tokens text ts h.1)

pub tokens_stand : (text : List ℕ) (ts : List Lexeme) → All (token.StandsIn text) ts → InTokens (IsSpanOfText text) ts
tokens_stand text ts h = by_tokens text ts (recursion_from_All (token.StandsIn text) ts h)

pub stands_spread : (text : List ℕ) → Spreads (IsSpanOfText text)
stands_spread text = λ a b p q. (p.0, q.1)

pub commands_stand : (text : List ℕ) (ts : List Lexeme) (cs : List CommandTree) → All (token.StandsIn text) ts → AreCommandsOf (pieces_of ts) cs → InCommands (IsSpanOfText text) cs
commands_stand text ts cs h are = in_commands (IsSpanOfText text) (stands_spread text) (pieces_of ts) cs (pieces_in (AtPlace (IsSpanOfText text)) ts (tokens_stand text ts h)) are
