-- Documents without faults.
use Rattle.std.specs.Prelude.{◌↔◌, List, [], ◌∷◌}
use Rattle.lam_rules.specs.declared.rules.Dialect.{Dialect}
use Rattle.lam_scope.specs.Places.{written, of_term, Scope, Place, Statement, defines, declares, abbreviates, states, places_of}
use Rattle.lam_scope.specs.Expanded.{IsExpanded}
use Rattle.lam_typing.specs.LeastTypes.{IsTyped}
use Rattle.lam_typing.specs.Blaming.{IsBlamed}

-- each definition and each evaluation has a type
abbrev pub AreTyped : Scope → List Statement → Dialect → Type 0
AreTyped s [] d = Unit {0}
AreTyped s (defines e ∷ rest) d = IsTyped s e d × AreTyped (of_term e ∷ s) rest d
AreTyped s (declares w ∷ rest) d = AreTyped (written w ∷ s) rest d
AreTyped s (abbreviates w ∷ rest) d = AreTyped s rest d
AreTyped s (states e ∷ rest) d = IsTyped s e d × AreTyped s rest d

-- no subterm is at fault
abbrev pub AreUnblamed : List Place → Dialect → Type 0
AreUnblamed [] d = Unit {0}
AreUnblamed (p ∷ ps) d = (IsBlamed p.scope p.here d → ⊥) × AreUnblamed ps d

-- if each written type stands for a type, no subterm is at fault if and only if each definition and each evaluation has a type
abbrev pub IsTypedWhereUnblamed : List Statement → Dialect → Type 0
IsTypedWhereUnblamed statements d = IsExpanded statements → (AreUnblamed (places_of [] statements) d ↔ AreTyped [] statements d)
