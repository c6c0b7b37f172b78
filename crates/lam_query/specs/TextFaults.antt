-- The diagnostics of a text.
use Rattle.std.specs.Prelude.{ℕ, List, [], ◌∷◌, ◌++◌, map, codes}
use Rattle.lam_token.specs.declared.span.Span.{Span}
use Rattle.lam_token.specs.Lexeme.{Lexeme}
use Rattle.lam_token.specs.Cut.{AreTokensOf}
use Rattle.lam_rules.specs.declared.rules.Dialect.{Dialect}
use Rattle.lam_syntax.specs.Trees.{CommandTree}
use Rattle.lam_syntax.specs.Answers.{pieces_of}
use Rattle.lam_scope.specs.declared.type_fault.TypeFault.{TypeFault}
use Rattle.lam_scope.specs.declared.type_fault.TypeFault.TheVariants.{UnboundTypeName, RepeatedLabel}
use Rattle.lam_scope.specs.Nameless.{faults}
use Rattle.lam_typing.specs.Blaming.{Blamed, AreBlamed}
use Rattle.lam_query.specs.Commands.{AreCommandsOf}
use Rattle.lam_query.specs.Faults.{Fault, AreInOrder}
use Rattle.lam_query.specs.SyntaxFaults.{fault_at, AreSyntaxFaults}
use Rattle.lam_query.specs.Sizes.{IsSizeFault, IsSmall, places_in, span_numbered}

-- the diagnostic of a written type
abbrev pub written_fault : TypeFault → Fault
written_fault (UnboundTypeName s) = fault_at (codes "Y1") s
written_fault (RepeatedLabel s) = fault_at (codes "Y2") s

-- the diagnostic of a term at fault
abbrev pub blame_fault : List CommandTree → Blamed → Fault
blame_fault commands blamed = fault_at blamed.code (span_numbered commands blamed.number)

-- The type diagnostics: the size diagnostic alone if there is one, otherwise those of all written types and of all terms at fault.
pub data AreTypeFaults : List CommandTree → List Fault → Dialect → Type 0 where
  too_large : {commands : List CommandTree} {s : Span} {d : Dialect} → IsSizeFault commands s d → AreTypeFaults commands (fault_at (codes "L1") s ∷ []) d
  small : {commands : List CommandTree} {d : Dialect} (blames : List Blamed)
      → IsSmall commands d → AreBlamed 0 (places_in commands) blames d
      → AreTypeFaults commands (map written_fault (faults [] commands) ++ map (blame_fault commands) blames) d

-- the diagnostics of a text, given as bytes, in order
pub record AreFaults (text : List ℕ) (found : List Fault) (d : Dialect) : Type 0 where
  pub tokens : List Lexeme
  pub are_tokens : AreTokensOf text tokens
  pub commands : List CommandTree
  pub are_commands : AreCommandsOf (pieces_of tokens) commands
  pub of_syntax : List Fault
  pub are_of_syntax : AreSyntaxFaults tokens of_syntax
  pub of_types : List Fault
  pub are_of_types : AreTypeFaults commands of_types d
  pub in_order : AreInOrder (of_syntax ++ of_types) found
