-- The scope made of a context: each binder's written type is its entry.
use Rattle.std.specs.Prelude.{[], ◌∷◌}
use Rattle.lam_rules.specs.Typing.{Context}
use Rattle.lam_scope.specs.Places.{written, Scope}

-- the scope in which these entries are written, one by one
abbrev pub scope_of_entries : Context → Scope
scope_of_entries [] = []
scope_of_entries (entry ∷ g) = written entry ∷ scope_of_entries g
