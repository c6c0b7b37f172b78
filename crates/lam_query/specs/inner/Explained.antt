-- Diagnostics that are being explained. For private functions only.
use Rattle.std.specs.Prelude.{◌≡◌, ◌<◌, ◌^◌, ℕ, List, [], ◌∷◌, ◌++◌, length, map, Option, Some, None, codes, All}
use Rattle.lam_rules.specs.Types.{Typ}
use Rattle.lam_rules.specs.Terms.{Term, if_then_else, succ, pred, is_zero, apply, ascribe, project, fix}
use Rattle.lam_rules.specs.Texts.{text}
use Rattle.lam_rules.specs.declared.rules.Dialect.{Dialect}
use Rattle.lam_syntax.specs.Trees.{CommandTree}
use Rattle.lam_scope.specs.Labels.{place_in}
use Rattle.lam_scope.specs.Views.{AreScopesOf}
use Rattle.lam_scope.specs.declared.numbers.Place.{Place}
use Rattle.lam_scope.specs.declared.scopes.Scopes.{Scopes}
use Rattle.lam_typing.specs.Blaming.{Blamed, IsBlamed}
use Rattle.lam_typing.specs.Checking.{types_in}
use Rattle.lam_query.specs.declared.analyses.Analysis.{Analysis}
use Rattle.lam_query.specs.declared.entries.Entries.{Entries}
use Rattle.lam_query.specs.declared.pieces.PieceAt.{PieceAt}
use Rattle.lam_query.specs.declared.typings.Types.{Types}
use Rattle.lam_query.specs.Faults.{Fault}
use Rattle.lam_query.specs.Mismatches.{Mismatch, expected, found, in_application, in_fix, IsMismatch, ExplainedFault, IsExplained}
use Rattle.lam_query.specs.Sizes.{places_in}
use Rattle.lam_query.specs.TextFaults.{blame_fault}
use Rattle.lam_query.specs.inner.Around.{IsPieceAround}
use Rattle.lam_query.specs.inner.Entries.{AreMeanings}
use Rattle.lam_query.specs.inner.Typings.{AreTypesOf}

-- the mismatch of a term whose parts have these types, from left to right
abbrev pub mismatch_in : Term → List Typ → Option Mismatch
mismatch_in (apply f a) (t ∷ u ∷ []) = Some (in_application t u)
mismatch_in (project e l) (t ∷ []) = Some (found (text t))
mismatch_in (if_then_else c a b) (t ∷ u ∷ v ∷ []) = Some (expected (codes "Bool") (text t))
mismatch_in (succ e) (t ∷ []) = Some (expected (codes "Nat") (text t))
mismatch_in (pred e) (t ∷ []) = Some (expected (codes "Nat") (text t))
mismatch_in (is_zero e) (t ∷ []) = Some (expected (codes "Nat") (text t))
mismatch_in (ascribe e (Some w)) (t ∷ []) = Some (expected (text w) (text t))
mismatch_in (fix e) (t ∷ []) = Some (in_fix t)
mismatch_in e ts = None

-- the number of parts of a term of this form, for forms that have a mismatch
abbrev pub HasParts : Term → ℕ → Type 0
HasParts (apply f a) n = n ≡ 2
HasParts (project e l) n = n ≡ 1
HasParts (if_then_else c a b) n = n ≡ 3
HasParts (succ e) n = n ≡ 1
HasParts (pred e) n = n ≡ 1
HasParts (is_zero e) n = n ≡ 1
HasParts (ascribe e w) n = n ≡ 1
HasParts (fix e) n = n ≡ 1
HasParts e n = Unit {0}

-- the term at a place is at fault in commands with these scopes and types
pub record IsBlamedAt (scopes : Scopes) (types : Types) (place : Place) : Type 0 where
  pub commands : List CommandTree
  pub dialect : Dialect
  pub are_scopes : AreScopesOf scopes commands
  pub are_types : AreTypesOf commands types dialect
  pub inside : place.0 < length (places_in commands)
  pub blamed : IsBlamed (place_in commands place.0).scope (place_in commands place.0).here dialect

-- a diagnostic without a mismatch
abbrev pub unexplained : Fault → ExplainedFault
unexplained f = record { fault = f; mismatch = None }

-- these diagnostics of the commands were appended, each with its explanation
pub record AreAdded (commands : List CommandTree) (faults : List Fault) (old now : List ExplainedFault) (d : Dialect) : Type 0 where
  pub added : List ExplainedFault
  pub are : now ≡ old ++ added
  pub same : map (λ e. e.fault) added ≡ faults
  pub each : All (IsExplained commands d) added

-- the diagnostics of these terms at fault, each with its mismatch
abbrev pub AreToldOf : List CommandTree → List Blamed → List ExplainedFault → Dialect → Type 0
AreToldOf commands [] [] d = Unit {0}
AreToldOf commands (b ∷ bs) (e ∷ es) d =
    (e.fault ≡ blame_fault commands b) × IsMismatch (place_in commands b.number).scope (place_in commands b.number).here e.mismatch d × AreToldOf commands bs es d
AreToldOf commands bs es d = ⊥

-- before the piece, names have the meanings in these entries; the offsets of the text fit in 64 bits
pub record AreEntriesAround (text : List ℕ) (a : Analysis) (p : PieceAt) (e : Entries) : Type 0 where
  pub offset : ℕ
  pub here : IsPieceAround text offset a p
  pub fits : length text < 2 ^ 64
  pub are : AreMeanings here.sight (types_in a.types) a.bound e
