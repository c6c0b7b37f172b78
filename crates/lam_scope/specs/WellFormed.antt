-- Written types with distinct labels at every depth, in terms, scopes and statements.
use Rattle.std.specs.Prelude.{List, [], ◌∷◌}
use Rattle.lam_rules.specs.Terms.{Term, TermFields}
use Rattle.lam_rules.specs.Typing.{IsWellFormedEntry}
use Rattle.lam_scope.specs.Places.{Binding, written, of_term, Scope, Statement}
use Rattle.lam_scope.specs.EachWritten.{EachWrittenInTerm, EachWrittenInTerms, EachWrittenInStatement, EachWrittenInStatements}

-- each written type of a term
abbrev pub IsWellFormedTerm : Term → Type 0
IsWellFormedTerm e = EachWrittenInTerm IsWellFormedEntry e

-- each one in the terms of a record
abbrev pub AreWellFormedTerms : TermFields → Type 0
AreWellFormedTerms es = EachWrittenInTerms IsWellFormedEntry es

-- each written type in a binding
abbrev pub IsWellFormedBinding : Binding → Type 0
IsWellFormedBinding (written w) = IsWellFormedEntry w
IsWellFormedBinding (of_term e) = IsWellFormedTerm e

-- each one in the bindings of a scope
abbrev pub IsWellFormedScope : Scope → Type 0
IsWellFormedScope [] = Unit {0}
IsWellFormedScope (b ∷ outside) = IsWellFormedBinding b × IsWellFormedScope outside

-- each written type of a statement
abbrev pub IsWellFormedStatement : Statement → Type 0
IsWellFormedStatement statement = EachWrittenInStatement IsWellFormedEntry statement

-- each written type of statements
abbrev pub AreWellFormedStatements : List Statement → Type 0
AreWellFormedStatements statements = EachWrittenInStatements IsWellFormedEntry statements
