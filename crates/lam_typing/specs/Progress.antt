-- How far a walk over subterms has come, in terms of types alone: the vocabulary of the contracts of its steps.
use Rattle.std.specs.Prelude.{◌≡◌, ◌<◌, ℕ, List, [], ◌∷◌, ◌++◌, length, Bool, true, false, Option, Some, None}
use Rattle.lam_rules.specs.Types.{Typ, nodes, Fields, no_fields}
use Rattle.lam_rules.specs.Terms.{Term, TermFields, no_terms, term_field}
use Rattle.lam_rules.specs.Texts.{Text}
use Rattle.lam_rules.specs.Typing.{Context, IsWellFormedContext}
use Rattle.lam_rules.specs.declared.rules.Dialect.{Dialect}
use Rattle.lam_scope.specs.Expansions.{node_limit}
use Rattle.lam_scope.specs.Places.{Scope, Place, places}
use Rattle.lam_typing.specs.Contexts.{IsContext}
use Rattle.lam_typing.specs.LeastTypes.{IsLeastAt}
use Rattle.lam_typing.specs.Narrowing.{IsNarrower}
use Rattle.lam_typing.specs.Blaming.{Blamed, AreBlamed, application_code}
use Rattle.lam_typing.specs.Analysis.{AreLeast, AreSmall, IsTooLarge}
use Rattle.lam_typing.specs.inner.Steps.{MoreRule}

-- a context of a scope that is narrower than every other one
pub record IsLowest (s : Scope) (g : Context) (d : Dialect) : Type 0 where
  pub wf : IsWellFormedContext g
  pub is_context : IsContext s g d
  pub narrower : (h : Context) → IsContext s h d → IsNarrower g h d

-- the types found for the subterms so far, and those at fault among them
pub record Progress : Type 0 where
  pub found : List (Option Typ)
  pub blames : List Blamed

-- these were found for these subterms, the first of which has this index
pub record Shown (ps : List Place) (n : ℕ) (found : List (Option Typ)) (blames : List Blamed) (d : Dialect) : Type 0 where
  pub least : AreLeast ps found d
  pub small : AreSmall found
  pub blamed : AreBlamed n ps blames d

-- the walk visited the subterms of some term in a scope, for each scope that has this context as its lowest one
pub record Went (g : Context) (ps : Scope → List Place) (old now : Progress) (d : Dialect) : Type 0 where
  pub found : List (Option Typ)
  pub blames : List Blamed
  pub found_is : now.found ≡ old.found ++ found
  pub blames_are : now.blames ≡ old.blames ++ blames
  pub shown : (s : Scope) → IsLowest s g d → Shown (ps s) (length old.found) found blames d

-- it visited a term whose least type is this
pub record WentOver (g : Context) (e : Term) (old now : Progress) (o : Option Typ) (d : Dialect) : Type 0 where
  pub went : Went g (λ s. places s e) old now d
  pub least : (s : Scope) → IsLowest s g d → IsLeastAt s e o d

-- why a walk stopped early: the next subterm is over the size limit, or all that were requested are found
pub data Cause : Type 0 where
  next_is_too_large : Cause
  enough : Cause

-- the first of the remaining subterms is over the size limit, if that is the cause
abbrev pub NextIs : Cause → List Place → Dialect → Type 0
NextIs next_is_too_large [] d = ⊥
NextIs next_is_too_large (p ∷ ps) d = IsTooLarge p d
NextIs enough ps d = Unit {0}

-- these were found for the first of these subterms, and the walk stopped before the others
pub record ShownFront (ps : List Place) (n : ℕ) (found : List (Option Typ)) (blames : List Blamed) (cause : Cause) (d : Dialect) : Type 0 where
  pub front : List Place
  pub rest : List Place
  pub are : ps ≡ front ++ rest
  pub shown : Shown front n found blames d
  pub next : NextIs cause rest d

-- the walk stopped among the subterms of some term
pub record StoppedIn (g : Context) (ps : Scope → List Place) (old now : Progress) (cause : Cause) (d : Dialect) : Type 0 where
  pub found : List (Option Typ)
  pub blames : List Blamed
  pub found_is : now.found ≡ old.found ++ found
  pub blames_are : now.blames ≡ old.blames ++ blames
  pub shown : (s : Scope) → IsLowest s g d → ShownFront (ps s) (length old.found) found blames cause d

-- the least types of the terms of a record, label by label; none if one of them has none
abbrev pub AreFieldsAt : Scope → TermFields → Option Fields → Dialect → Type 0
AreFieldsAt s no_terms o d = o ≡ Some no_fields
AreFieldsAt s (term_field l e es) o d = (x : Option Typ) × (y : Option Fields) × IsLeastAt s e x d × AreFieldsAt s es y d × MoreRule l x y o

-- all the fields, or none
abbrev pub if_all : Bool → Fields → Option Fields
if_all true fs = Some fs
if_all false fs = None

-- the fault that a step reports: nothing was found though the parts have types
abbrev pub blame_step : ℕ → Bool → Option Typ → Text → List Blamed
blame_step n parts (Some t) code = []
blame_step n true None code = record { number = n; code = code } ∷ []
blame_step n false None code = []

-- the code for an application at fault, if its first term has a type
abbrev pub IsApplicationCode : Text → Option Typ → Type 0
IsApplicationCode code None = Unit {0}
IsApplicationCode code (Some t) = code ≡ application_code t

-- the type is over the size limit
abbrev pub IsLarge : Option Typ → Type 0
IsLarge None = ⊥
IsLarge (Some t) = node_limit < nodes t
