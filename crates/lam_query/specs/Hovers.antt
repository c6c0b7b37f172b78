-- Hovers.
use Rattle.std.specs.Prelude.{◌≡◌, ℕ, List, Bool, false, Option, Some, None, if◌then◌else◌, ltb}
use Rattle.std.specs.List.{find}
use Rattle.lam_token.specs.declared.span.Span.{Span}
use Rattle.lam_rules.specs.Types.{Typ}
use Rattle.lam_rules.specs.Texts.{Text, text}
use Rattle.lam_rules.specs.declared.rules.Dialect.{Dialect}
use Rattle.lam_syntax.specs.Trees.{CommandTree}
use Rattle.lam_scope.specs.PlacedTerms.{PlacedTerm, PlacedTree, term_of, document_terms}
use Rattle.lam_typing.specs.LeastTypes.{IsLeastAt}
use Rattle.lam_query.specs.Commands.{AreCommandsOfText}
use Rattle.lam_query.specs.Sizes.{IsSmall}

-- whether a term contains byte o; a term that is not written contains none
abbrev pub has_byte : ℕ → PlacedTerm → Bool
has_byte o t = if t.is_written then (if ltb o t.span.start then false else ltb o t.span.end) else false

-- the innermost of the terms that contain byte o: the first, since each term comes after its parts
abbrev pub innermost_at : ℕ → List PlacedTree → Option PlacedTree
innermost_at o terms = find (λ t. has_byte o (term_of t)) terms

-- No type of the document is over the size limit, this is the innermost term around the offset, and this is its least type.
pub record IsTypedAround (commands : List CommandTree) (offset : ℕ) (term : PlacedTree) (type : Typ) (d : Dialect) : Type 0 where
  pub small : IsSmall commands d
  pub innermost : innermost_at offset (document_terms commands) ≡ Some term
  pub least : IsLeastAt (term_of term).place.scope (term_of term).place.here (Some type) d

-- a type as text, and the span of the term that has it
pub record Shown : Type 0 where
  pub text : Text
  pub span : Span

-- the hover at an offset: the least type as text, or nothing if there is no such type
abbrev pub IsHover : List CommandTree → (offset : ℕ) → Option Shown → Dialect → Type 0
IsHover commands offset (Some shown) d =
    (term : PlacedTree) × (type : Typ) × IsTypedAround commands offset term type d × (shown.text ≡ text type) × (shown.span ≡ (term_of term).span)
IsHover commands offset None d = (term : PlacedTree) (type : Typ) → IsTypedAround commands offset term type d → ⊥

-- the hover at an offset of a text: that of the text's commands
pub record IsShownIn (text : List ℕ) (offset : ℕ) (shown : Option Shown) (d : Dialect) : Type 0 where
  pub commands : List CommandTree
  pub are_commands : AreCommandsOfText text commands
  pub answer : IsHover commands offset shown d
