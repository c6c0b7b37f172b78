-- What is in scope for a command by its environment.
use Rattle.std.specs.Prelude.{List, Option}
use Rattle.lam_rules.specs.Types.{Typ}
use Rattle.lam_scope.specs.declared.environment.Environment.{Environment}
use Rattle.lam_scope.specs.Names.{Name}
use Rattle.lam_scope.specs.Expansions.{Abbreviation}
use Rattle.lam_scope.specs.NumberedNames.{abbreviations_over, TypeIdsStand}

-- the binders of names, innermost first
abbrev pub names_seen : Environment → List (Option Name)
names_seen e = e.names

-- the abbreviations over the types of a table, innermost first
abbrev pub abbreviations_seen : List Typ → Environment → List Abbreviation
abbreviations_seen ts e = abbreviations_over ts e.types

-- the type ids of its type names are those of types of the table
abbrev pub TypeNamesStand : List Typ → Environment → Type 0
TypeNamesStand ts e = TypeIdsStand ts e.types
