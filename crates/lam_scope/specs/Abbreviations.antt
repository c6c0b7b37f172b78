-- What stored abbreviations stand for.
use Rattle.std.specs.Prelude.{List, [], map, Option, Some}
use Rattle.lam_rules.specs.TermViews.{written_of}
use Rattle.lam_scope.specs.declared.abbreviations.Abbreviation.{Abbreviation as RustAbbreviation}
use Rattle.lam_scope.specs.Names.{Name}
use Rattle.lam_scope.specs.Stacks.{stacked}
use Rattle.lam_scope.specs.Expansions.{Abbreviation, stands_for}

-- a type name and what it stands for, or none
abbrev pub abbreviation_of : RustAbbreviation → Abbreviation
abbreviation_of a = stands_for a.name.now (written_of a.expansion)

-- the abbreviations of a stack, innermost first
abbrev pub abbreviations_in : List RustAbbreviation → List Abbreviation
abbreviations_in = stacked abbreviation_of []

-- the type name that an abbreviation binds
abbrev pub name_of_one : Abbreviation → Option Name
name_of_one (stands_for x t) = Some x

-- the type names that abbreviations bind, in order
abbrev pub names_in : List Abbreviation → List (Option Name)
names_in = map name_of_one
