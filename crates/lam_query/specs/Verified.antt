-- Verification of a derivation against its text.
use Rattle.std.specs.Prelude.{◌≡◌, ◌<◌, ℕ, List, length, map, reverse, true}
use Rattle.lam_rules.specs.Typing.{Context, TypingTree, IsTyping}
use Rattle.lam_rules.specs.declared.rules.Dialect.{Dialect}
use Rattle.lam_syntax.specs.Trees.{CommandTree}
use Rattle.lam_scope.specs.PlacedTerms.{PlacedTree, document_terms, term_of, tree_in}
use Rattle.lam_query.specs.Commands.{AreCommandsOfText}
use Rattle.lam_query.specs.Derivations.{Derivation, names_seen}
use Rattle.lam_query.specs.Sizes.{IsSmall}
use Rattle.lam_query.specs.Steps.{steps_of, typing_proof}
use Rattle.lam_typing.specs.Contexts.{IsContext}

-- the entries of the context, innermost first
abbrev pub entries_listed : Derivation → Context
entries_listed x = reverse (map (λ e. e.type) x.context)

-- the context lists the names in scope at the term
abbrev pub HasNames : PlacedTree → Derivation → Type 0
HasNames term x = map (λ e. e.name) x.context ≡ names_seen term

-- The context has the names in scope at the term, each with an entry that the rules allow.
pub record HasContext (term : PlacedTree) (x : Derivation) (d : Dialect) : Type 0 where
  pub names : HasNames term x
  pub context : IsContext (term_of term).place.scope (entries_listed x) d

-- The derivation is a valid proof about this term of the text (a letrec's derived terms are not in it): its steps, with their ranges, are those of a proof by the
-- rules that the term has the concluded type in its context.
pub record IsProofOf (term : PlacedTree) (derivation : Derivation) (d : Dialect) : Type 0 where
  pub written : (term_of term).is_written ≡ true
  pub has_context : HasContext term derivation d
  pub tree : TypingTree
  pub proof : IsTyping (entries_listed derivation) (term_of term).place.here tree d
  pub steps : derivation.steps ≡ steps_of 0 (typing_proof term tree)

-- The derivation is a valid proof about the term with this number among the terms of these commands.
abbrev pub IsProofAt : List CommandTree → (number : ℕ) → Derivation → Dialect → Type 0
IsProofAt commands number derivation d = IsProofOf (tree_in (document_terms commands) number) derivation d

-- The derivation is a valid proof about a term of the text, in which no type has more than 4,096 nodes.
pub record IsVerified (text : List ℕ) (derivation : Derivation) (d : Dialect) : Type 0 where
  pub commands : List CommandTree
  pub are_commands : AreCommandsOfText text commands
  pub small : IsSmall commands d
  pub number : ℕ
  pub inside : number < length (document_terms commands)
  pub is_proof : IsProofAt commands number derivation d
