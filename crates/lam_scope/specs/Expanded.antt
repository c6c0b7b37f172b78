-- Documents in which each written type stands for a type.
use Rattle.std.specs.Prelude.{List, Option, Some, None}
use Rattle.lam_rules.specs.Types.{Typ}
use Rattle.lam_scope.specs.Places.{Statement}
use Rattle.lam_scope.specs.EachWritten.{EachWrittenInStatements}

-- a written type stands for a type
abbrev pub HasExpansion : Option Typ → Type 0
HasExpansion (Some t) = Unit {0}
HasExpansion None = ⊥

-- each written type of a document stands for a type
abbrev pub IsExpanded : List Statement → Type 0
IsExpanded statements = EachWrittenInStatements HasExpansion statements
