-- Lexical and syntactic diagnostics.
use Rattle.std.specs.Prelude.{◌≡◌, ◌<◌, ◌≤◌, ◌-◌, ℕ, List, [], ◌∷◌, ◌++◌, length, true, codes, Option, Some, None, slice_get}
use Rattle.std.specs.List.{filter_map}
use Rattle.std.specs.Option.{option_to_list}
use Rattle.lam_token.specs.declared.kind.Kind.TheVariants as kind
use Rattle.lam_token.specs.declared.span.Span.{Span}
use Rattle.lam_token.specs.Lexeme.{Lexeme, lexeme, span_of}
use Rattle.lam_rules.specs.Texts.{Text}
use Rattle.lam_syntax.specs.Trees.{CommandTree, from_to}
use Rattle.lam_syntax.specs.Grammar.{Spells}
use Rattle.lam_syntax.specs.Answers.{token_limit, has_bad, IsLexed, GoesWrongAt, EndsEarly, pieces_of}
use Rattle.lam_query.specs.Faults.{Fault}

-- the diagnostic with this code at this span
abbrev pub fault_at : Text → Span → Fault
fault_at code span = record { code = code; span = span }

-- the lexical error that a token is, if it is one
abbrev pub fault_of_token : Lexeme → Option Fault
fault_of_token (lexeme kind.BadCharacter text span) = Some (fault_at (codes "B1") span)
fault_of_token (lexeme kind.BadComment text span) = Some (fault_at (codes "B2") span)
fault_of_token t = None

-- the diagnostic of a piece as a whole: that it is too long; otherwise none if a token of it is a lexical error or it is a command; otherwise where parsing fails
pub data PieceFault : List Lexeme → Option Fault → Type 0 where
  too_long : {ts : List Lexeme} {first last : Lexeme}
      → token_limit < length ts → slice_get ts 0 ≡ Some first → slice_get ts (length ts - 1) ≡ Some last
      → PieceFault ts (Some (fault_at (codes "L2") (from_to (span_of first) (span_of last))))
  spoiled : {ts : List Lexeme} → length ts ≤ token_limit → has_bad ts ≡ true → PieceFault ts None
  a_command : {ts : List Lexeme} {c : CommandTree} → IsLexed ts → Spells ts c → PieceFault ts None
  goes_wrong : {ts : List Lexeme} {k : ℕ} {t : Lexeme}
      → IsLexed ts → GoesWrongAt ts k → slice_get ts k ≡ Some t
      → PieceFault ts (Some (fault_at (codes "P1") (span_of t)))
  ends_early : {ts : List Lexeme} {last : Lexeme}
      → IsLexed ts → EndsEarly ts → slice_get ts (length ts - 1) ≡ Some last
      → PieceFault ts (Some (fault_at (codes "P2") (span_of last)))

-- the diagnostics of pieces, in order
abbrev pub PieceFaults : List (List Lexeme) → List Fault → Type 0
PieceFaults [] found = found ≡ []
PieceFaults (p ∷ ps) found =
    (one : Option Fault) × (others : List Fault) × PieceFault p one × PieceFaults ps others × (found ≡ option_to_list one ++ others)

-- all lexical and syntactic diagnostics
pub record AreSyntaxFaults (tokens : List Lexeme) (found : List Fault) : Type 0 where
  pub of_pieces : List Fault
  pub pieces : PieceFaults (pieces_of tokens) of_pieces
  pub all : found ≡ filter_map fault_of_token tokens ++ of_pieces
