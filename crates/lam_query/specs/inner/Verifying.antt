-- Intermediate facts of the verification. For private functions alone.
use Rattle.std.specs.Prelude.{◌<◌, ℕ, List, length, get_or, take, Option, Some, None}
use Rattle.std.specs.List.{AllZip}
use Rattle.lam_rules.specs.declared.rules.Dialect.{Dialect}
use Rattle.lam_syntax.specs.Trees.{CommandTree}
use Rattle.lam_scope.specs.PlacedTerms.{PlacedTree, document_terms}
use Rattle.lam_scope.specs.Views.{AreScopesOf}
use Rattle.lam_query.specs.Derivations.{Derivation}
use Rattle.lam_query.specs.FirstFaults.{IsFaultAt, IsFaultIn}
use Rattle.lam_query.specs.Verified.{HasContext, IsProofAt, IsProofOf}
use Rattle.lam_query.specs.declared.answers.FirstFault.{FirstFault}
use Rattle.lam_query.specs.declared.verify.TypedText.{TypedText}
use Rattle.lam_query.specs.inner.Typings.{AreTypesOf}

-- the text has these commands
pub record IsTextOf (commands : List CommandTree) (text : TypedText) : Type 0 where
  pub are_scopes : AreScopesOf text.scopes commands
  pub are_types : AreTypesOf commands text.types text.dialect

-- The derivation is about one of the terms of these commands.
pub record IsOfSomeTerm (commands : List CommandTree) (derivation : Derivation) (d : Dialect) : Type 0 where
  pub number : ℕ
  pub inside : number < length (document_terms commands)
  pub is_proof : IsProofAt commands number derivation d

-- what is wrong with the context of a derivation as one about this term; `None` if it fits the term
abbrev pub IsContextResult : PlacedTree → Derivation → Dialect → Option FirstFault → Type 0
IsContextResult term x d None = HasContext term x d
IsContextResult term x d (Some fault) = (HasContext term x d → ⊥) × IsFaultAt term x d fault

-- what is wrong with a derivation as one about this term; `None` if it is a valid one
abbrev pub IsResultAt : PlacedTree → Derivation → Dialect → Option FirstFault → Type 0
IsResultAt term x d None = IsProofOf term x d
IsResultAt term x d (Some fault) = (IsProofOf term x d → ⊥) × IsFaultAt term x d fault

-- what is wrong with a derivation as one about a term of these commands; `None` if it is a valid one
abbrev pub IsResultIn : List CommandTree → Derivation → Dialect → Option FirstFault → Type 0
IsResultIn commands x d None = IsOfSomeTerm commands x d
IsResultIn commands x d (Some fault) = (IsOfSomeTerm commands x d → ⊥) × IsFaultIn commands x d fault

-- The relation holds of each pair of elements before this index, and not of the pair there.
pub record IsFirstNot {A B : Type 0} (R : A → B → Type 0) (xs : List A) (ys : List B) (number : ℕ) : Type 0 where
  pub inside : number < length xs
  pub before : AllZip R (take number xs) (take number ys)
  pub not_there : (x : A) (y : B) → R (get_or xs number x) (get_or ys number y) → ⊥
