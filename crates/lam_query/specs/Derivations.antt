-- Derivations of the types that a hover shows.
use Rattle.std.specs.Prelude.{◌≡◌, ℕ, List, map, reverse, Option, Some, None}
use Rattle.lam_rules.specs.Types.{Typ}
use Rattle.lam_rules.specs.Texts.{Text}
use Rattle.lam_rules.specs.Typing.{Context, TypingTree, type_in, IsTyping}
use Rattle.lam_rules.specs.declared.rules.Dialect.{Dialect}
use Rattle.lam_syntax.specs.Trees.{CommandTree}
use Rattle.lam_scope.specs.Names.{shown_name}
use Rattle.lam_scope.specs.PlacedTerms.{PlacedTree, term_of}
use Rattle.lam_query.specs.Commands.{AreCommandsOfText}
use Rattle.lam_query.specs.Hovers.{IsTypedAround, IsHover}
use Rattle.lam_query.specs.Steps.{Step, steps_of, typing_proof}
use Rattle.lam_typing.specs.LeastTypes.{AreLeastEntries}

-- a binder of a context, with its type if it has one
pub record ContextEntry : Type 0 where
  pub name : Text
  pub type : Option Typ

-- a derivation of the type of a term: the binders in scope, and the steps of a proof
pub record Derivation : Type 0 where
  -- outermost first
  pub context : List ContextEntry
  pub steps : List Step

-- the names of the binders in scope at a term, outermost first
abbrev pub names_seen : PlacedTree → List Text
names_seen t = map shown_name (reverse (term_of t).names)

-- The context has the names and least entries of the binders in scope at the innermost term around the offset. The steps are those of a proof by the rules, in that
-- context, that the term has the type that the hover shows.
pub record IsDerivationAround (commands : List CommandTree) (offset : ℕ) (derivation : Derivation) (d : Dialect) : Type 0 where
  pub term : PlacedTree
  pub type : Typ
  pub typed : IsTypedAround commands offset term type d
  pub entries : Context
  pub least : AreLeastEntries (term_of term).place.scope entries d
  pub names : map (λ e. e.name) derivation.context ≡ names_seen term
  pub types : map (λ e. e.type) derivation.context ≡ reverse entries
  pub tree : TypingTree
  pub proof : IsTyping entries (term_of term).place.here tree d
  pub concluded : type_in tree ≡ type
  pub steps : derivation.steps ≡ steps_of 0 (typing_proof term tree)

-- a derivation, or none where there is no hover
abbrev pub IsDerivation : List CommandTree → (offset : ℕ) → Option Derivation → Dialect → Type 0
IsDerivation commands offset (Some derivation) d = IsDerivationAround commands offset derivation d
IsDerivation commands offset None d = IsHover commands offset None d

-- the derivation at an offset of a text
pub record IsDerivedIn (text : List ℕ) (offset : ℕ) (derived : Option Derivation) (d : Dialect) : Type 0 where
  pub commands : List CommandTree
  pub are_commands : AreCommandsOfText text commands
  pub answer : IsDerivation commands offset derived d
