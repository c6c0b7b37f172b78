-- What is wrong first with a derivation that is not verified. Steps and entries are counted from 0, entries from the outermost.
use Rattle.std.specs.Prelude.{◌≡◌, ◌≢◌, ◌⊎◌, ℕ, suc, ◌<◌, List, [], ◌∷◌, length, take, slice_get, Option, Some, None, true}
use Rattle.lam_token.specs.declared.span.Span.{Span}
use Rattle.lam_rules.specs.Typing.{Context, TypingTree, IsTyping}
use Rattle.lam_rules.specs.declared.rules.Dialect.{Dialect}
use Rattle.lam_syntax.specs.Trees.{CommandTree}
use Rattle.lam_scope.specs.Places.{Scope}
use Rattle.lam_scope.specs.PlacedTerms.{PlacedTree, document_terms, term_of, tree_in}
use Rattle.lam_typing.specs.Contexts.{Fits, IsContext}
use Rattle.lam_query.specs.Commands.{AreCommandsOfText}
use Rattle.lam_query.specs.Derivations.{Derivation}
use Rattle.lam_query.specs.ProofTrees.{MakeTree}
use Rattle.lam_query.specs.Sizes.{IsSizeFault, IsSmall, span_numbered}
use Rattle.lam_query.specs.Steps.{Proofs, Step, last_span, steps_of, steps_of_each, typing_proof}
use Rattle.lam_query.specs.Judgements.{judgements, IsFirstFailing}
use Rattle.lam_query.specs.Verified.{HasContext, HasNames, IsVerified, entries_listed}
use Rattle.lam_query.specs.declared.answers.FirstFault.{FirstFault}
use Rattle.lam_query.specs.declared.answers.FirstFault.TheVariants as faults

-- ---- the steps by themselves

-- The steps are those of proofs, one after another: the premises of each step are the last steps of the proofs directly before it.
pub record AreOfProofs (steps : List Step) : Type 0 where
  pub proofs : Proofs
  pub are : steps ≡ steps_of_each 0 proofs

-- This step is the first whose premises are not the last steps of the proofs directly before it: the steps before it are of proofs; with it, they are not.
pub record IsFirstMisplaced (steps : List Step) (number : ℕ) : Type 0 where
  pub inside : number < length steps
  pub before : AreOfProofs (take number steps)
  pub not_with_it : AreOfProofs (take (suc number) steps) → ⊥

-- ---- as a derivation about one term

-- The outermost entry that does not fit its binder has this index: it is among the entries further out or, if those all fit, the innermost one.
abbrev pub IsFirstUnfitEntry : Scope → Context → Dialect → ℕ → Type 0
IsFirstUnfitEntry (b ∷ outside) (entry ∷ g) d number =
    IsFirstUnfitEntry outside g d number ⊎ (IsContext outside g d × (Fits b (λ h. IsContext outside h d) entry d → ⊥) × (number ≡ length outside))
IsFirstUnfitEntry _ _ d number = ⊥

-- the lists differ at this index, and not before
pub record DifferFirst (xs ys : List Step) (number : ℕ) : Type 0 where
  pub same : take number xs ≡ take number ys
  pub differ : slice_get xs number ≢ slice_get ys number

-- what is wrong first with a derivation as one about this term: the names in its context, its entries, the steps by their rules, or their ranges
abbrev pub IsFaultAt : PlacedTree → Derivation → Dialect → FirstFault → Type 0
IsFaultAt term x d faults.Names = HasNames term x → ⊥
IsFaultAt term x d (faults.Entry number) = HasNames term x × IsFirstUnfitEntry (term_of term).place.scope (entries_listed x) d number
IsFaultAt term x d (faults.Step number) =
    HasContext term x d × (tree : TypingTree) × MakeTree x.steps tree × IsFirstFailing d 0 (judgements (entries_listed x) (term_of term).place.here tree) number
IsFaultAt term x d (faults.Range number) =
    HasContext term x d × (tree : TypingTree) × MakeTree x.steps tree × IsTyping (entries_listed x) (term_of term).place.here tree d
    × DifferFirst x.steps (steps_of 0 (typing_proof term tree)) number
IsFaultAt term x d _ = ⊥

-- ---- as a derivation about a term of a text

-- The subterm with this index is in the text (a letrec's derived terms are not), and has the range of the last step.
abbrev pub HasRange : List CommandTree → List Step → ℕ → Type 0
HasRange commands steps n = ((term_of (tree_in (document_terms commands) n)).is_written ≡ true) × (last_span steps ≡ Some (span_numbered commands n))

-- the subterm with this index is the first such subterm
pub record IsFirstWithRange (commands : List CommandTree) (steps : List Step) (number : ℕ) : Type 0 where
  pub inside : number < length (document_terms commands)
  pub here : HasRange commands steps number
  pub first : (n : ℕ) → n < number → HasRange commands steps n → ⊥

-- what is wrong with a derivation as one about the first term that has the range of its last step; or that there is no such term
abbrev pub IsFaultIn : List CommandTree → Derivation → Dialect → FirstFault → Type 0
IsFaultIn commands x d (faults.NoTerm number) =
    (suc number ≡ length x.steps) × ((n : ℕ) → n < length (document_terms commands) → HasRange commands x.steps n → ⊥)
IsFaultIn commands x d fault = (number : ℕ) × IsFirstWithRange commands x.steps number × IsFaultAt (tree_in (document_terms commands) number) x d fault

-- ---- in a text

-- The steps are those of one proof of typing.
pub record AreOfOneProof (steps : List Step) : Type 0 where
  pub tree : TypingTree
  pub make : MakeTree steps tree

-- The steps are those of one proof, and the text has no type of more than 4,096 nodes: this is wrong with the derivation as one about the text.
pub record IsFaultInText (text : List ℕ) (x : Derivation) (d : Dialect) (fault : FirstFault) : Type 0 where
  pub of_one_proof : AreOfOneProof x.steps
  pub commands : List CommandTree
  pub are_commands : AreCommandsOfText text commands
  pub small : IsSmall commands d
  pub is_fault : IsFaultIn commands x d fault

-- The text has a type of more than 4,096 nodes.
pub record IsTooLarge (text : List ℕ) (d : Dialect) : Type 0 where
  pub commands : List CommandTree
  pub are_commands : AreCommandsOfText text commands
  pub span : Span
  pub is_fault : IsSizeFault commands span d

-- What is wrong with a derivation, in this order: it has no step; its steps are not those of proofs, or not of one of typing; a type of the text is too large;
-- it is about no term of the text, or else what is wrong with it as one about a term.
abbrev pub IsFirstFault : List ℕ → Derivation → Dialect → FirstFault → Type 0
IsFirstFault text x d faults.NoStep = x.steps ≡ []
IsFirstFault text x d (faults.Premises number) = IsFirstMisplaced x.steps number
IsFirstFault text x d (faults.Loose number) =
    AreOfProofs x.steps × (suc number ≡ length x.steps) × ((tree : TypingTree) → MakeTree x.steps tree → ⊥)
IsFirstFault text x d faults.TooLarge = AreOfOneProof x.steps × IsTooLarge text d
IsFirstFault text x d fault = IsFaultInText text x d fault

-- `None` if the derivation is verified; otherwise what is wrong first, and nothing else is
abbrev pub IsResult : List ℕ → Derivation → Dialect → Option FirstFault → Type 0
IsResult text x d None = IsVerified text x d
IsResult text x d (Some fault) = (IsVerified text x d → ⊥) × IsFirstFault text x d fault × ((other : FirstFault) → IsFirstFault text x d other → other ≡ fault)
