-- What a subterm at fault expects of its parts, and what was found there.
use Rattle.std.specs.Prelude.{◌≡◌, ◌<◌, List, [], ◌∷◌, length, map, Option, Some, None, codes, All, Contains, ℕ}
use Rattle.lam_rules.specs.Types.{Typ, arrow}
use Rattle.lam_rules.specs.Terms.{Term, if_then_else, succ, pred, is_zero, apply, ascribe, project, fix}
use Rattle.lam_rules.specs.Texts.{Text, text}
use Rattle.lam_rules.specs.declared.rules.Dialect.{Dialect}
use Rattle.lam_syntax.specs.Trees.{CommandTree}
use Rattle.lam_scope.specs.Labels.{place_in}
use Rattle.lam_scope.specs.Places.{Scope}
use Rattle.lam_typing.specs.Blaming.{Blamed, IsBlamed, IsBlamedFor}
use Rattle.lam_typing.specs.LeastTypes.{IsLeastAt}
use Rattle.lam_query.specs.Commands.{AreCommandsOfText}
use Rattle.lam_query.specs.Faults.{Fault}
use Rattle.lam_query.specs.Sizes.{places_in, IsSmall}
use Rattle.lam_query.specs.TextFaults.{AreFaults, blame_fault}

-- Types as text: a part has type `found` where a subtype of `asked` is required; or the type found is no function type or has no such field.
pub data Mismatch : Type 0 where
  expected : (asked found : Text) → Mismatch
  found : (found : Text) → Mismatch

-- the mismatch of an application, from the least types of its terms: the argument does not fit, or the first term is not a function
abbrev pub in_application : (function argument : Typ) → Mismatch
in_application (arrow p r) t = expected (text p) (text t)
in_application t u = found (text t)

-- the mismatch of a fix, from the least type of its term: the result type does not fit the parameter type, or the term is not a function
abbrev pub in_fix : Typ → Mismatch
in_fix (arrow p r) = expected (text p) (text r)
in_fix t = found (text t)

-- the mismatch of a term in this scope; none for an unbound name, a repeated label and all other terms
abbrev pub IsMismatch : Scope → Term → Option Mismatch → Dialect → Type 0
IsMismatch s (apply f a) m d = (t u : Typ) × IsLeastAt s f (Some t) d × IsLeastAt s a (Some u) d × (m ≡ Some (in_application t u))
IsMismatch s (project e l) m d = (t : Typ) × IsLeastAt s e (Some t) d × (m ≡ Some (found (text t)))
IsMismatch s (if_then_else c a b) m d = (t : Typ) × IsLeastAt s c (Some t) d × (m ≡ Some (expected (codes "Bool") (text t)))
IsMismatch s (succ e) m d = (t : Typ) × IsLeastAt s e (Some t) d × (m ≡ Some (expected (codes "Nat") (text t)))
IsMismatch s (pred e) m d = (t : Typ) × IsLeastAt s e (Some t) d × (m ≡ Some (expected (codes "Nat") (text t)))
IsMismatch s (is_zero e) m d = (t : Typ) × IsLeastAt s e (Some t) d × (m ≡ Some (expected (codes "Nat") (text t)))
IsMismatch s (ascribe e (Some w)) m d = (t : Typ) × IsLeastAt s e (Some t) d × (m ≡ Some (expected (text w) (text t)))
IsMismatch s (fix e) m d = (t : Typ) × IsLeastAt s e (Some t) d × (m ≡ Some (in_fix t))
IsMismatch s e m d = m ≡ None

-- a diagnostic, with the mismatch at the subterm at fault if there is one
pub record ExplainedFault : Type 0 where
  pub fault : Fault
  pub mismatch : Option Mismatch

-- the codes of diagnostics that are not about a term: of tokens, of the grammar, of sizes and of written types
abbrev pub codes_of_no_term : List Text
codes_of_no_term = codes "B1" ∷ codes "B2" ∷ codes "L1" ∷ codes "L2" ∷ codes "P1" ∷ codes "P2" ∷ codes "Y1" ∷ codes "Y2" ∷ []

-- The diagnostic is about a term at fault in these commands, with its mismatch; or about no term, and without a mismatch.
pub data IsExplained (commands : List CommandTree) (d : Dialect) : ExplainedFault → Type 0 where
  of_term : {e : ExplainedFault} (b : Blamed) → IsSmall commands d → b.number < length (places_in commands)
      → IsBlamed (place_in commands b.number).scope (place_in commands b.number).here d
      → IsBlamedFor (place_in commands b.number).scope (place_in commands b.number).here b.code d
      → e.fault ≡ blame_fault commands b → IsMismatch (place_in commands b.number).scope (place_in commands b.number).here e.mismatch d → IsExplained commands d e
  of_no_term : {e : ExplainedFault} → Contains codes_of_no_term e.fault.code → e.mismatch ≡ None → IsExplained commands d e

-- the diagnostics of a text, each with its mismatch if there is one
pub record AreExplained (text : List ℕ) (all : List ExplainedFault) (d : Dialect) : Type 0 where
  pub are_faults : AreFaults text (map (λ e. e.fault) all) d
  pub commands : List CommandTree
  pub are_commands : AreCommandsOfText text commands
  pub each : All (IsExplained commands d) all
