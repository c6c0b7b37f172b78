-- The law of narrowing, stated on the rules alone.
use Rattle.std.specs.Prelude.{[], ◌∷◌, Option, Some, None}
use Rattle.lam_rules.specs.Types.{Typ}
use Rattle.lam_rules.specs.Terms.{Term}
use Rattle.lam_rules.specs.Subtyping.{IsBelow}
use Rattle.lam_rules.specs.Typing.{Context, IsWellFormedContext, HasType}
use Rattle.lam_rules.specs.declared.rules.Dialect.{Dialect}

-- an entry is below another, or the other is none
abbrev pub IsNarrowerEntry : Option Typ → Option Typ → Dialect → Type 0
IsNarrowerEntry entry None d = Unit {0}
IsNarrowerEntry (Some s) (Some t) d = IsBelow s t d
IsNarrowerEntry None (Some t) d = ⊥

-- the first context is as long as the second, and narrower entry by entry
abbrev pub IsNarrower : Context → Context → Dialect → Type 0
IsNarrower [] [] d = Unit {0}
IsNarrower (a ∷ g) (b ∷ h) d = IsNarrowerEntry a b d × IsNarrower g h d
IsNarrower [] (b ∷ h) d = ⊥
IsNarrower (a ∷ g) [] d = ⊥

-- each type that a term has in the second context it has in the first, where that is narrower
abbrev pub Narrows : Context → Context → Dialect → Type 0
Narrows g h d =
    IsWellFormedContext g → IsWellFormedContext h → IsNarrower g h d → (e : Term) (t : Typ) → HasType h e t d → HasType g e t d
