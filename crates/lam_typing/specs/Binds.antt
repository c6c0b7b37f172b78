-- What a statement binds for the statements after it, and the scope that they have.
use Rattle.std.specs.Prelude.{◌≡◌, ◌∷◌, Option, None}
use Rattle.lam_rules.specs.Types.{Typ}
use Rattle.lam_rules.specs.Typing.{Context}
use Rattle.lam_rules.specs.declared.rules.Dialect.{Dialect}
use Rattle.lam_scope.specs.Places.{written, of_term, Scope, Statement, defines, declares, abbreviates, states}
use Rattle.lam_typing.specs.LeastTypes.{IsLeastAt}

-- the context entry of the binder that a statement makes in this scope: the least type of a definition's term, or what is declared; none if it makes no binder
abbrev pub BindsEntry : Scope → Statement → Option Typ → Dialect → Type 0
BindsEntry s (defines e) entry d = IsLeastAt s e entry d
BindsEntry s (declares w) entry d = entry ≡ w
BindsEntry s (abbreviates w) entry d = entry ≡ None
BindsEntry s (states e) entry d = entry ≡ None

-- the scope of the statements after one
abbrev pub scope_with : Scope → Statement → Scope
scope_with s (defines e) = of_term e ∷ s
scope_with s (declares w) = written w ∷ s
scope_with s a = s

-- a context of that scope, where the statement's binder, if it makes one, has this entry
abbrev pub context_with : Context → Statement → Option Typ → Context
context_with g (defines e) entry = entry ∷ g
context_with g (declares w) entry = entry ∷ g
context_with g a entry = g
