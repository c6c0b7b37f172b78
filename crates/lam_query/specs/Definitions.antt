-- The definition of the name under the cursor, and its references.
use Rattle.std.specs.Prelude.{◌≡◌, ℕ, List, ◌∷◌, Bool, Option, Some, Contains, if◌then◌else◌}
use Rattle.std.specs.Option.{option_map, option_and_then}
use Rattle.lam_token.specs.declared.span.Span.{Span}
use Rattle.lam_token.specs.Lexeme.{Lexeme, start_of}
use Rattle.lam_token.specs.Cut.{AreTokensOf}
use Rattle.lam_syntax.specs.Trees.{CommandTree}
use Rattle.lam_syntax.specs.Answers.{pieces_of}
use Rattle.lam_scope.specs.Mentions.{mentions, bound_at, uses_of}
use Rattle.lam_query.specs.Commands.{AreCommandsOf}
use Rattle.lam_query.specs.Touched.{touched}

-- the binder that the touched name is or uses; none if no name is touched, or it is free, a label, or in no command
abbrev pub definition_in : List Lexeme → List CommandTree → ℕ → Option Span
definition_in tokens commands o = option_and_then (λ t. bound_at (start_of t) (mentions commands)) (touched o tokens)

-- the uses of a binder, in text order, after the binder itself if `declared`
abbrev pub references_to : List CommandTree → (declared : Bool) → Span → List Span
references_to commands declared b = if declared then b ∷ uses_of b (mentions commands) else uses_of b (mentions commands)

-- the definition of the name at an offset of a text
pub record IsDefinitionIn (text : List ℕ) (offset : ℕ) (answer : Option Span) : Type 0 where
  pub tokens : List Lexeme
  pub are_tokens : AreTokensOf text tokens
  pub commands : List CommandTree
  pub are_commands : AreCommandsOf (pieces_of tokens) commands
  pub told : answer ≡ definition_in tokens commands offset

-- the references to the binder of the name at an offset of a text, none if it is not bound
pub record AreReferencesIn (text : List ℕ) (offset : ℕ) (declared : Bool) (answer : Option (List Span)) : Type 0 where
  pub tokens : List Lexeme
  pub are_tokens : AreTokensOf text tokens
  pub commands : List CommandTree
  pub are_commands : AreCommandsOf (pieces_of tokens) commands
  pub told : answer ≡ option_map (references_to commands declared) (definition_in tokens commands offset)

-- if two names of a text have different binders, their references have no span in common
abbrev pub AreApart : (text : List ℕ) → (offset other : ℕ) → (spans others : List Span) → Type 0
AreApart text offset other spans others =
    (binder another : Span) (s : Span) → IsDefinitionIn text offset (Some binder) → IsDefinitionIn text other (Some another) → (binder ≡ another → ⊥)
    → Contains spans s → Contains others s → ⊥
