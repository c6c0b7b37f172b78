-- What is found wrong with a derivation: as one about a term, about a term of some commands, and in a text.
use Rattle.std.proofs.Common.{◌≡◌, ℕ, zero, suc, ◌+◌, ◌<◌, ◌≤◌, List, [], ◌∷◌, length, map, slice_get, Option, Some, None, false, refl, sym, ap, subst, ◌∙◌, arith}
use Rattle.std.specs.Option.{unwrap_or}
use Rattle.lam_query.specs.Views.{step_of}
use Rattle.lam_query.specs.declared.answers.Step.{Step as RustStep}
use Rattle.lam_token.specs.declared.span.Span.{Span}
use Rattle.lam_rules.specs.Typing.{TypingTree}
use Rattle.lam_rules.specs.declared.rules.Dialect.{Dialect}
use Rattle.lam_syntax.specs.Trees.{CommandTree}
use Rattle.lam_scope.specs.PlacedTerms.{document_terms, tree_in}
use Rattle.lam_scope.specs.Tables.{place_row_numbered}
use Rattle.lam_scope.specs.Views.{table_of, AreScopesOf}
use Rattle.lam_scope.specs.declared.scopes.Scopes.{Scopes}
use Rattle.lam_query.specs.Commands.{AreCommandsOfText}
use Rattle.lam_query.specs.Derivations.{Derivation}
use Rattle.lam_query.specs.Sizes.{IsSizeFault, IsSmall}
use Rattle.lam_query.specs.Steps.{Step, typing_proof, last_span}
use Rattle.lam_query.proofs.OneAnswer.{one_document}
use Rattle.lam_query.proofs.ReadTrees.{tree_read}
use Rattle.lam_query.specs.FirstFaults.{DifferFirst, IsFaultAt, IsFaultIn, IsFirstFault, IsFirstMisplaced, IsFirstWithRange, IsResult, AreOfOneProof, AreOfProofs, HasRange}
use Rattle.lam_query.specs.Verified.{IsProofAt, IsVerified}
use Rattle.lam_query.specs.declared.answers.FirstFault.{FirstFault}
use Rattle.lam_query.specs.declared.answers.FirstFault.TheVariants as faults
use Rattle.lam_query.specs.inner.Verifying.{IsOfSomeTerm, IsResultIn}
use Rattle.lam_query.proofs.Misplaced.{one_is_placed, never_empty}
use Rattle.lam_query.proofs.OneFault.{one_fault}
use Rattle.lam_query.proofs.Verifying.{ends_with_span, row_written, span_there, too_large, written_there}
use Rattle.lam_query.specs.ProofTrees.{MakeTree}

-- ---- the terms of commands, one by one

-- what is found among the terms before this index
abbrev pub IsFirstSoFar : List CommandTree → Derivation → Dialect → (before : ℕ) → Option FirstFault → Type 0
IsFirstSoFar commands x d i None = (n : ℕ) → n < i → HasRange commands x.steps n → ⊥
IsFirstSoFar commands x d i (Some fault) = (number : ℕ) × (number < i) × IsFirstWithRange commands x.steps number × IsFaultAt (tree_in (document_terms commands) number) x d fault

pub record IsSoFar (commands : List CommandTree) (x : Derivation) (d : Dialect) (before : ℕ) (first : Option FirstFault) : Type 0 where
  pub of_none : (n : ℕ) → n < before → IsProofAt commands n x d → ⊥
  pub found : IsFirstSoFar commands x d before first

-- the range of a term with a proof
range_is : (commands : List CommandTree) (x : Derivation) (d : Dialect) (n : ℕ) → IsProofAt commands n x d → HasRange commands x.steps n
range_is commands x d n h = (h.written, ap last_span h.steps ∙ ends_with_span (tree_in (document_terms commands) n) h.tree)

up_to : (P : ℕ → Type 0) (i : ℕ) → ((n : ℕ) → n < i → P n) → P i → (n : ℕ) → n < i + 1 → P n
up_to P zero before here zero lt = here
up_to P zero before here (suc n) lt = absurd (omega arith)
up_to P (suc i) before here zero lt = before zero (omega arith)
up_to P (suc i) before here (suc n) lt = up_to (λ m. P (suc m)) i (λ m under. before (suc m) (omega arith)) here n (omega arith)

-- a term with another range
pub so_far_other : (commands : List CommandTree) (x : Derivation) (d : Dialect) (i : ℕ) (first : Option FirstFault) → (HasRange commands x.steps i → ⊥)
    → IsSoFar commands x d i first → IsSoFar commands x d (i + 1) first
so_far_other commands x d i None other h = record {
  of_none = up_to (λ n. IsProofAt commands n x d → ⊥) i h.of_none (λ is. other (range_is commands x d i is));
  found = up_to (λ n. HasRange commands x.steps n → ⊥) i h.found other;
}
so_far_other commands x d i (Some fault) other h = record {
  of_none = up_to (λ n. IsProofAt commands n x d → ⊥) i h.of_none (λ is. other (range_is commands x d i is));
  found = (h.found.0, (let lt = h.found.1 in omega arith), h.found.2, h.found.3);
}

-- a term with the range, and a fault
pub so_far_fault : (commands : List CommandTree) (x : Derivation) (d : Dialect) (i : ℕ) (first : Option FirstFault) (fault : FirstFault) → i < length (document_terms commands)
    → HasRange commands x.steps i → (IsProofAt commands i x d → ⊥) → IsFaultAt (tree_in (document_terms commands) i) x d fault
    → IsSoFar commands x d i first → IsSoFar commands x d (i + 1) (Some (unwrap_or first fault))
so_far_fault commands x d i None fault inside here not_it wrong h = record {
  of_none = up_to (λ n. IsProofAt commands n x d → ⊥) i h.of_none not_it;
  found = (i, (omega arith), record { inside = inside; here = here; first = h.found }, wrong);
}
so_far_fault commands x d i (Some fault) other inside here not_it wrong h = record {
  of_none = up_to (λ n. IsProofAt commands n x d → ⊥) i h.of_none not_it;
  found = (h.found.0, (let lt = h.found.1 in omega arith), h.found.2, h.found.3);
}

-- a fault as one about a term is one among the terms
in_commands : (commands : List CommandTree) (x : Derivation) (d : Dialect) (number : ℕ) (fault : FirstFault) → IsFirstWithRange commands x.steps number → IsFaultAt (tree_in (document_terms commands) number) x d fault
    → IsFaultIn commands x d fault
in_commands commands x d number faults.Names first h = (number, first, h)
in_commands commands x d number (faults.Entry k) first h = (number, first, h)
in_commands commands x d number (faults.Step k) first h = (number, first, h)
in_commands commands x d number (faults.Range k) first h = (number, first, h)
in_commands commands x d number faults.NoStep first h = absurd h
in_commands commands x d number (faults.Premises k) first h = absurd h
in_commands commands x d number (faults.Loose k) first h = absurd h
in_commands commands x d number faults.TooLarge first h = absurd h
in_commands commands x d number (faults.NoTerm k) first h = absurd h

pub all_terms : (commands : List CommandTree) (x : Derivation) (d : Dialect) (i last : ℕ) (first : Option FirstFault) → length (document_terms commands) ≤ i → suc last ≡ length x.steps
    → IsSoFar commands x d i first → IsResultIn commands x d (Some (unwrap_or first (faults.NoTerm last)))
all_terms commands x d i last None past is h = (
  (λ some. (let inside = some.inside in h.of_none some.number (omega arith) some.is_proof)),
  (is, (λ n lt. h.found n (omega arith))),
)
all_terms commands x d i last (Some fault) past is h = (
  (λ some. (let inside = some.inside in h.of_none some.number (omega arith) some.is_proof)),
  in_commands commands x d h.found.0 fault h.found.2 h.found.3,
)

-- the range of a term, from its row
abbrev pub IsRowEnd : Scopes → List Step → ℕ → Type 0
IsRowEnd scopes steps i = let row = place_row_numbered (table_of scopes) i in (row.derived ≡ false) × (last_span steps ≡ Some row.span)

pub here_is : (commands : List CommandTree) (scopes : Scopes) (x : Derivation) (i : ℕ) → AreScopesOf scopes commands → IsRowEnd scopes x.steps i → HasRange commands x.steps i
here_is commands scopes x i are is = (written_there commands scopes i are is.0, is.1 ∙ ap (λ (s : Span). Some s) (span_there commands scopes i are))

pub row_is : (commands : List CommandTree) (scopes : Scopes) (x : Derivation) (i : ℕ) → AreScopesOf scopes commands → HasRange commands x.steps i → IsRowEnd scopes x.steps i
row_is commands scopes x i are is = (row_written commands scopes i are is.0, is.1 ∙ ap (λ (s : Span). Some s) (sym (span_there commands scopes i are)))

-- ---- in a text

-- nothing else is wrong first
wrong_alone : (text : List ℕ) (x : Derivation) (d : Dialect) (fault : FirstFault) → (IsVerified text x d → ⊥) → IsFirstFault text x d fault → IsResult text x d (Some fault)
wrong_alone text x d fault not_verified first = (not_verified, first, (λ other also. one_fault text x d other fault also first))

in_text : (text : List ℕ) (x : Derivation) (commands : List CommandTree) (d : Dialect) (fault : FirstFault) → AreOfOneProof x.steps → AreCommandsOfText text commands → IsSmall commands d
    → IsFaultIn commands x d fault → IsFirstFault text x d fault
in_text text x commands d faults.Names one are small h = record { of_one_proof = one; commands = commands; are_commands = are; small = small; is_fault = h }
in_text text x commands d (faults.Entry k) one are small h = record { of_one_proof = one; commands = commands; are_commands = are; small = small; is_fault = h }
in_text text x commands d (faults.Step k) one are small h = record { of_one_proof = one; commands = commands; are_commands = are; small = small; is_fault = h }
in_text text x commands d (faults.Range k) one are small h = record { of_one_proof = one; commands = commands; are_commands = are; small = small; is_fault = h }
in_text text x commands d (faults.NoTerm k) one are small h = record { of_one_proof = one; commands = commands; are_commands = are; small = small; is_fault = h }
in_text text x commands d faults.NoStep one are small h = absurd h.2
in_text text x commands d (faults.Premises k) one are small h = absurd h.2
in_text text x commands d (faults.Loose k) one are small h = absurd h.2
in_text text x commands d faults.TooLarge one are small h = absurd h.2

pub result_in_text : (text : List ℕ) (x : Derivation) (commands : List CommandTree) (d : Dialect) (found : Option FirstFault) → AreOfOneProof x.steps → AreCommandsOfText text commands → IsSmall commands d
    → IsResultIn commands x d found → IsResult text x d found
result_in_text text x commands d None one are small h =
    record { commands = commands; are_commands = are; small = small; number = h.number; inside = h.inside; is_proof = h.is_proof }
result_in_text text x commands d (Some fault) one are small h = wrong_alone text x d fault
    (λ v.
    let same = one_document text v.commands commands v.are_commands are in
    h.0 (subst (λ cs. IsOfSomeTerm cs x d) same (record { number = v.number; inside = v.inside; is_proof = v.is_proof })))
    (in_text text x commands d fault one are small h.1)

pub result_too_large : (text : List ℕ) (x : Derivation) (commands : List CommandTree) (d : Dialect) (s : Span) → AreOfOneProof x.steps → AreCommandsOfText text commands → IsSizeFault commands s d
    → IsResult text x d (Some faults.TooLarge)
result_too_large text x commands d s one are fault =
    wrong_alone text x d faults.TooLarge (λ v. too_large text commands x d s are fault v) (one, record { commands = commands; are_commands = are; span = s; is_fault = fault })

-- ---- the steps by themselves

pub no_steps : (steps : List RustStep) → length steps ≡ 0 → map step_of steps ≡ []
no_steps [] is = refl
no_steps (s ∷ steps) is = absurd (omega arith)

pub result_no_step : (text : List ℕ) (x : Derivation) (d : Dialect) → x.steps ≡ [] → IsResult text x d (Some faults.NoStep)
result_no_step text x d none =
    wrong_alone text x d faults.NoStep
    (λ v. never_empty x.steps (typing_proof (tree_in (document_terms v.commands) v.number) v.is_proof.tree) v.is_proof.steps (ap length none)) none

pub result_premises : (text : List ℕ) (x : Derivation) (d : Dialect) (number : ℕ) → IsFirstMisplaced x.steps number → IsResult text x d (Some (faults.Premises number))
result_premises text x d number h =
    wrong_alone text x d (faults.Premises number)
    (λ v. one_is_placed x.steps (typing_proof (tree_in (document_terms v.commands) v.number) v.is_proof.tree) number v.is_proof.steps h) h

pub result_loose : (text : List ℕ) (x : Derivation) (d : Dialect) (last : ℕ) → AreOfProofs x.steps → suc last ≡ length x.steps
    → ((tree : TypingTree) → MakeTree x.steps tree → ⊥) → IsResult text x d (Some (faults.Loose last))
result_loose text x d last placed is none =
    wrong_alone text x d (faults.Loose last)
    (λ v.
    let term = tree_in (document_terms v.commands) v.number in
    none v.is_proof.tree (record { whole = typing_proof term v.is_proof.tree; are_steps = v.is_proof.steps; is_tree = tree_read term v.is_proof.tree }))
    (placed, is, none)

pub no_difference : {A : Type 0} (xs ys : List Step) (n : ℕ) → DifferFirst xs ys n → xs ≡ ys → A
no_difference xs ys n h same = absurd (h.differ (ap (λ zs. slice_get zs n) same))
