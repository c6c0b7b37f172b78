-- The join (least common supertype) and the meet (greatest common subtype) of two types, TAPL 16.3.
use Rattle.lam_rules.specs.Types.{Typ}
use Rattle.lam_rules.specs.Subtyping.{IsBelow}
use Rattle.lam_rules.specs.declared.rules.Dialect.{Dialect}

-- the type is a common supertype, and a subtype of every other one
pub record IsJoin (s t j : Typ) (d : Dialect) : Type 0 where
  pub left : IsBelow s j d
  pub right : IsBelow t j d
  pub least : (u : Typ) → IsBelow s u d → IsBelow t u d → IsBelow j u d

-- the type is a common subtype, and a supertype of every other one
pub record IsMeet (s t m : Typ) (d : Dialect) : Type 0 where
  pub left : IsBelow m s d
  pub right : IsBelow m t d
  pub greatest : (u : Typ) → IsBelow u s d → IsBelow u t d → IsBelow u m d

-- no type is a subtype of both
abbrev pub HaveNoMeet : Typ → Typ → Dialect → Type 0
HaveNoMeet s t d = (u : Typ) → IsBelow u s d → IsBelow u t d → ⊥
