-- Rename: the name under the cursor, its binder and all its other uses get a new name.
use Rattle.std.specs.Prelude.{◌≡◌, ◌⊎◌, ℕ, List, [], ◌∷◌, map, Some, None, Result, Ok, Err, true}
use Rattle.lam_token.specs.declared.kind.Kind.TheVariants as kind
use Rattle.lam_token.specs.declared.span.Span.{Span}
use Rattle.lam_token.specs.Lexeme.{Lexeme, kind_of, start_of}
use Rattle.lam_token.specs.Cut.{AreTokensOf}
use Rattle.lam_token.specs.Edits.{edited, moved, renaming, retold, IsOne}
use Rattle.lam_syntax.specs.Trees.{CommandTree}
use Rattle.lam_syntax.specs.Respelled.{respelled_command}
use Rattle.lam_syntax.specs.Answers.{pieces_of}
use Rattle.lam_scope.specs.Mentions.{mentions, bound_at, other_kind}
use Rattle.lam_scope.specs.Forms.{forms}
use Rattle.lam_query.specs.declared.renames.RenameFault.{RenameFault}
use Rattle.lam_query.specs.declared.renames.RenameFault.TheVariants as fault
use Rattle.lam_query.specs.Commands.{IsCommandOf, AreCommandsOfText}
use Rattle.lam_query.specs.Touched.{touched}
use Rattle.lam_query.specs.Definitions.{definition_in, references_to}

-- a text that is exactly one name or type name
abbrev pub IsAnyName : List ℕ → Type 0
IsAnyName new = IsOne kind.Name new ⊎ IsOne kind.TypeName new

-- the commands of pieces that are all commands
abbrev pub AreAllCommandsOf : List (List Lexeme) → List CommandTree → Type 0
AreAllCommandsOf [] commands = commands ≡ []
AreAllCommandsOf (piece ∷ pieces) commands = (c : CommandTree) × (rest : List CommandTree) × (commands ≡ c ∷ rest) × IsCommandOf piece c × AreAllCommandsOf pieces rest

-- some piece is not a command
abbrev pub IsSomeNone : List (List Lexeme) → Type 0
IsSomeNone [] = ⊥
IsSomeNone (piece ∷ pieces) = ((c : CommandTree) → IsCommandOf piece c → ⊥) ⊎ IsSomeNone pieces

-- a text of which some piece is not a command
pub record IsUnparsed (text : List ℕ) : Type 0 where
  pub tokens : List Lexeme
  pub are_tokens : AreTokensOf text tokens
  pub none : IsSomeNone (pieces_of tokens)

-- a text of which each piece is a command
pub record IsParsed (text : List ℕ) : Type 0 where
  pub tokens : List Lexeme
  pub are_tokens : AreTokensOf text tokens
  pub commands : List CommandTree
  pub are_commands : AreAllCommandsOf (pieces_of tokens) commands

-- in such a text, the name or type name under the cursor, and the binder that it is or uses
pub record IsBound (text : List ℕ) (offset : ℕ) : Type 0 where
  pub parsed : IsParsed text
  pub name : Lexeme
  pub is_touched : touched offset parsed.tokens ≡ Some name
  pub binder : Span
  pub is_bound : bound_at (start_of name) (mentions parsed.commands) ≡ Some binder

-- in such a text, no name is touched, or it is free or a label
pub record IsUnbound (text : List ℕ) (offset : ℕ) : Type 0 where
  pub parsed : IsParsed text
  pub unbound : definition_in parsed.tokens parsed.commands offset ≡ None

-- the spans of that binder and its uses, in text order
abbrev pub spans_bound : {text : List ℕ} {offset : ℕ} → IsBound text offset → List Span
spans_bound bound = references_to bound.parsed.commands true bound.binder

-- with the new name at these spans, the commands keep their nameless form
abbrev pub KeepsForm : List Span → (new : List ℕ) → List CommandTree → Type 0
KeepsForm spans new commands = forms (map (respelled_command (λ o. o) (renaming spans new)) commands) ≡ forms commands

-- these spans get the new name, which is of the same kind as the old one, and binding is unchanged
pub record IsRenamed (text : List ℕ) (offset : ℕ) (new : List ℕ) (spans : List Span) : Type 0 where
  pub bound : IsBound text offset
  pub kind : IsOne (kind_of bound.name) new
  pub are_all : spans ≡ spans_bound bound
  pub keeps : KeepsForm spans new bound.parsed.commands

-- the new name is a type name and the old one a name, or vice versa
pub record IsOfWrongKind (text : List ℕ) (offset : ℕ) (new : List ℕ) : Type 0 where
  pub bound : IsBound text offset
  pub kind : IsOne (other_kind (kind_of bound.name)) new

-- the new name is of the same kind as the old one, and with it the commands would have a different nameless form
pub record IsChanged (text : List ℕ) (offset : ℕ) (new : List ℕ) : Type 0 where
  pub bound : IsBound text offset
  pub kind : IsOne (kind_of bound.name) new
  pub changes : KeepsForm (spans_bound bound) new bound.parsed.commands → ⊥

-- The answer to a rename at an offset of a text: the spans to replace, or the first of the five refusals that applies. There is no answer if allocation fails.
abbrev pub IsRenameIn : (text : List ℕ) → (offset : ℕ) → (new : List ℕ) → Result (List Span) RenameFault → Type 0
IsRenameIn text offset new (Ok spans) = IsRenamed text offset new spans
IsRenameIn text offset new (Err fault.NotAName) = IsAnyName new → ⊥
IsRenameIn text offset new (Err fault.UnparsedCommand) = IsAnyName new × IsUnparsed text
IsRenameIn text offset new (Err fault.NoBoundName) = IsAnyName new × IsUnbound text offset
IsRenameIn text offset new (Err fault.WrongKind) = IsOfWrongKind text offset new
IsRenameIn text offset new (Err fault.ChangesBinding) = IsChanged text offset new
IsRenameIn text offset new (Err fault.Memory) = ⊥

-- What a rename does to a text.

-- a command as it is in the edited text
abbrev pub retold_command : List Span → (new : List ℕ) → CommandTree → CommandTree
retold_command spans new c = respelled_command (moved spans new) (renaming spans new) c

-- a text with the new name at the spans: its tokens are the old ones, with the new name at these spans, each piece is still a command, and the commands have the same
-- nameless form
pub record IsRenamedText (text : List ℕ) (spans : List Span) (new : List ℕ) : Type 0 where
  pub before : IsParsed text
  pub tokens : AreTokensOf (edited text spans new) (map (retold spans new) before.tokens)
  pub commands : AreAllCommandsOf (pieces_of (map (retold spans new) before.tokens)) (map (retold_command spans new) before.commands)
  pub same_form : forms (map (retold_command spans new) before.commands) ≡ forms before.commands

-- a text that has a different nameless form with the new name at these spans
pub record IsOtherText (text : List ℕ) (spans : List Span) (new : List ℕ) : Type 0 where
  pub commands : List CommandTree
  pub before : AreCommandsOfText text commands
  pub others : List CommandTree
  pub after : AreCommandsOfText (edited text spans new) others
  pub other_form : forms others ≡ forms commands → ⊥
