-- The contexts that a scope may have: the entry of each binder is chosen independently.
use Rattle.std.specs.Prelude.{◌≡◌, [], ◌∷◌, Option, Some, None}
use Rattle.lam_rules.specs.Types.{Typ}
use Rattle.lam_rules.specs.Typing.{Context, HasType}
use Rattle.lam_rules.specs.declared.rules.Dialect.{Dialect}
use Rattle.lam_scope.specs.Places.{Binding, written, of_term, Scope}

-- An entry fits a binder. That of a written type is the type that it stands for, or none. That of a term is any type that the rules derive for it in some context of the
-- scope outside the binder, or none if there is no such type.
abbrev pub Fits : Binding → (Context → Type 0) → Option Typ → Dialect → Type 0
Fits (written w) IsOutside entry d = entry ≡ w
Fits (of_term e) IsOutside (Some t) d = (g : Context) × IsOutside g × HasType g e t d
Fits (of_term e) IsOutside None d = (g : Context) (t : Typ) → IsOutside g → HasType g e t d → ⊥

-- a context has one entry for each binder, and each of them fits
abbrev pub IsContext : Scope → Context → Dialect → Type 0
IsContext [] [] d = Unit {0}
IsContext (b ∷ outside) (entry ∷ g) d = Fits b (λ h. IsContext outside h d) entry d × IsContext outside g d
IsContext [] (entry ∷ g) d = ⊥
IsContext (b ∷ outside) [] d = ⊥
