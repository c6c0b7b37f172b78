-- What an analysis finds of subterms, in order.
use Rattle.std.specs.Prelude.{◌<◌, ◌≤◌, ℕ, zero, suc, List, [], ◌∷◌, Option, Some, None}
use Rattle.lam_rules.specs.Types.{Typ, nodes}
use Rattle.lam_rules.specs.declared.rules.Dialect.{Dialect}
use Rattle.lam_scope.specs.Expansions.{node_limit}
use Rattle.lam_scope.specs.Places.{Place}
use Rattle.lam_typing.specs.LeastTypes.{IsLeastAt}

-- for each subterm its least type, or none
abbrev pub AreLeast : List Place → List (Option Typ) → Dialect → Type 0
AreLeast [] [] d = Unit {0}
AreLeast (p ∷ ps) (o ∷ os) d = IsLeastAt p.scope p.here o d × AreLeast ps os d
AreLeast [] (o ∷ os) d = ⊥
AreLeast (p ∷ ps) [] d = ⊥

-- the type, if there is one, is within the size limit
abbrev pub IsSmallType : Option Typ → Type 0
IsSmallType None = Unit {0}
IsSmallType (Some t) = nodes t ≤ node_limit

-- all types found are within the size limit
abbrev pub AreSmall : List (Option Typ) → Type 0
AreSmall [] = Unit {0}
AreSmall (o ∷ os) = IsSmallType o × AreSmall os

-- a subterm whose least type is over the size limit
abbrev pub IsTooLarge : Place → Dialect → Type 0
IsTooLarge p d = (t : Typ) × IsLeastAt p.scope p.here (Some t) d × (node_limit < nodes t)

-- the subterm with this zero-based index is the first one over the size limit
abbrev pub IsFirstTooLarge : List Place → ℕ → Dialect → Type 0
IsFirstTooLarge [] n d = ⊥
IsFirstTooLarge (p ∷ ps) zero d = IsTooLarge p d
IsFirstTooLarge (p ∷ ps) (suc n) d = (o : Option Typ) × IsLeastAt p.scope p.here o d × IsSmallType o × IsFirstTooLarge ps n d
