-- The context entries of binders, by their origins.
use Rattle.std.specs.Prelude.{◌≡◌, ◌<◌, ℕ, List, Option, None, get_or}
use Rattle.lam_rules.specs.Types.{Typ}
use Rattle.lam_rules.specs.declared.rules.Dialect.{Dialect}
use Rattle.lam_scope.specs.Places.{Statement, place_numbered, statement_numbered}
use Rattle.lam_scope.specs.declared.numbers.Origin.{Origin}
use Rattle.lam_scope.specs.declared.numbers.Origin.TheVariants.{Lambda, Term as TermAt, Declaration, TypeName}
use Rattle.lam_typing.specs.LeastTypes.{IsLeastAt}
use Rattle.lam_scope.specs.Bindings.{lambda_type, declared_type}

-- an entry is the least one of a binder with this origin
abbrev pub IsLeastFrom : List Statement → Origin → Option Typ → Dialect → Type 0
IsLeastFrom ss (Lambda p) entry d = entry ≡ lambda_type (place_numbered ss p.0).here
IsLeastFrom ss (TermAt p) entry d = IsLeastAt (place_numbered ss p.0).scope (place_numbered ss p.0).here entry d
IsLeastFrom ss (Declaration i) entry d = entry ≡ declared_type (statement_numbered ss i)
IsLeastFrom ss TypeName entry d = entry ≡ None

-- the term that a binder takes its type from, if any, is one of the first n subterms
abbrev pub HasTermAmong : Origin → ℕ → Type 0
HasTermAmong (TermAt p) n = p.0 < n
HasTermAmong _ n = Unit {0}

-- the entry of a binder with this origin, given the types found for the subterms
abbrev pub entry_from : List Statement → List (Option Typ) → Origin → Option Typ
entry_from ss found (Lambda p) = lambda_type (place_numbered ss p.0).here
entry_from ss found (TermAt p) = get_or found p.0 None
entry_from ss found (Declaration i) = declared_type (statement_numbered ss i)
entry_from ss found TypeName = None
