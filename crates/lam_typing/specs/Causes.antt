-- Why a term has no type.
use Rattle.std.specs.Prelude.{◌⊎◌, List, Contains}
use Rattle.lam_rules.specs.declared.rules.Dialect.{Dialect}
use Rattle.lam_scope.specs.Places.{Place}
use Rattle.lam_typing.specs.LeastTypes.{IsTyped}
use Rattle.lam_typing.specs.Blaming.{IsBlamed, IsExcused}

-- among these subterms is one without a type that is at fault or excused
pub record HasCause (ps : List Place) (d : Dialect) : Type 0 where
  pub place : Place
  pub among : Contains ps place
  pub untyped : IsTyped place.scope place.here d → ⊥
  pub cause : IsBlamed place.scope place.here d ⊎ IsExcused place.scope place.here d
