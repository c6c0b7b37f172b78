-- The bindings of binders, by their origins.
use Rattle.std.specs.Prelude.{◌≡◌, List, [], ◌∷◌, Option, None}
use Rattle.lam_rules.specs.Types.{Typ}
use Rattle.lam_rules.specs.Terms.{Term, lambda}
use Rattle.lam_scope.specs.declared.numbers.Origin.{Origin}
use Rattle.lam_scope.specs.declared.numbers.Origin.TheVariants.{Lambda, Term as TermAt, Declaration, TypeName}
use Rattle.lam_scope.specs.Places.{Binding, written, of_term, Scope, Statement, declares, place_numbered, statement_numbered}
use Rattle.lam_scope.specs.Sights.{Sight}

-- the written type of a lambda, or none if that is faulty or for another term
abbrev pub lambda_type : Term → Option Typ
lambda_type (lambda w e) = w
lambda_type _ = None

-- the written type of a declaration, or none if that is faulty or for another statement
abbrev pub declared_type : Statement → Option Typ
declared_type (declares w) = w
declared_type _ = None

-- the binding of a binder of a name with this origin; that of a type name has no binding and gets a placeholder
abbrev pub binding_from : List Statement → Origin → Binding
binding_from ss (Lambda p) = written (lambda_type (place_numbered ss p.0).here)
binding_from ss (TermAt p) = of_term (place_numbered ss p.0).here
binding_from ss (Declaration i) = written (declared_type (statement_numbered ss i))
binding_from ss TypeName = written None

-- A binding has this origin: the lambda that binds it, a term, or a declaration. The lambda or the term is in the scope just outside of the binder.
abbrev pub IsOriginOf : List Statement → Origin → Binding → (outside : Scope) → Type 0
IsOriginOf ss (Lambda p) (written w) outside = (body : Term) × (place_numbered ss p.0 ≡ record { scope = outside; here = lambda w body })
IsOriginOf ss (TermAt p) (of_term e) outside = place_numbered ss p.0 ≡ record { scope = outside; here = e }
IsOriginOf ss (Declaration i) (written w) outside = statement_numbered ss i ≡ declares w
IsOriginOf ss _ _ outside = ⊥

-- each of the binders in scope at a subterm has its origin, innermost first
abbrev pub AreOriginsOf : List Statement → Sight → Scope → Type 0
AreOriginsOf ss [] [] = Unit {0}
AreOriginsOf ss (o ∷ sight) (b ∷ outside) = IsOriginOf ss o b outside × AreOriginsOf ss sight outside
AreOriginsOf ss _ _ = ⊥
