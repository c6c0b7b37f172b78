-- The types of a subterm over all its contexts, and the least of them.
use Rattle.std.specs.Prelude.{◌≡◌, Option, Some, None, [], ◌∷◌}
use Rattle.lam_rules.specs.Types.{Typ}
use Rattle.lam_rules.specs.Terms.{Term}
use Rattle.lam_rules.specs.Subtyping.{IsBelow}
use Rattle.lam_rules.specs.Typing.{Context, HasType}
use Rattle.lam_rules.specs.declared.rules.Dialect.{Dialect}
use Rattle.lam_scope.specs.Places.{Binding, written, of_term, Scope}
use Rattle.lam_typing.specs.Contexts.{IsContext}

-- the rules derive the type for the term in some context of the scope
abbrev pub IsTypeAt : Scope → Term → Typ → Dialect → Type 0
IsTypeAt s e t d = (g : Context) × IsContext s g d × HasType g e t d

-- there is such a type
abbrev pub IsTyped : Scope → Term → Dialect → Type 0
IsTyped s e d = (t : Typ) × IsTypeAt s e t d

-- a type among them that is below each of them; none only if there are none
abbrev pub IsLeastAt : Scope → Term → Option Typ → Dialect → Type 0
IsLeastAt s e (Some t) d = IsTypeAt s e t d × ((u : Typ) → IsTypeAt s e u d → IsBelow t u d)
IsLeastAt s e None d = (u : Typ) → IsTypeAt s e u d → ⊥

-- the least entry of a binder in this outer scope: its written type, or the least type of its term
abbrev pub IsLeastEntry : Scope → Binding → Option Typ → Dialect → Type 0
IsLeastEntry outside (written w) entry d = entry ≡ w
IsLeastEntry outside (of_term e) entry d = IsLeastAt outside e entry d

-- each entry of a context is the least one of its binder
abbrev pub AreLeastEntries : Scope → Context → Dialect → Type 0
AreLeastEntries [] [] d = Unit {0}
AreLeastEntries (b ∷ outside) (entry ∷ g) d = IsLeastEntry outside b entry d × AreLeastEntries outside g d
AreLeastEntries [] (entry ∷ g) d = ⊥
AreLeastEntries (b ∷ outside) [] d = ⊥
