-- Type names with the type ids of what they stand for, and the abbreviations that these are over the types of a table.
use Rattle.std.specs.Prelude.{List, [], ◌∷◌, map, Option, Some, None, if◌then◌else◌}
use Rattle.std.specs.Str.{bytes_eq}
use Rattle.lam_rules.specs.Types.{Typ}
use Rattle.lam_rules.specs.declared.numbers.TyNo.{TyNo}
use Rattle.lam_scope.specs.declared.type_names.TypeName.{TypeName}
use Rattle.lam_scope.specs.Names.{Name}
use Rattle.lam_scope.specs.Stacks.{stacked}
use Rattle.lam_scope.specs.Expansions.{Abbreviation, stands_for}
use Rattle.lam_scope.specs.Numbered.{written_over, StandsIfAny}

-- a type name and the type id of what it stands for, or none if its written type is faulty
pub record NumberedName : Type 0 where
  pub name : Name
  pub number : Option TyNo

-- what a `TypeName` stands for
abbrev pub numbered_name_of : TypeName → NumberedName
numbered_name_of t = record { name = t.name.now; number = t.number }

-- the type names of a stack, innermost first
abbrev pub numbered_names_of : List TypeName → List NumberedName
numbered_names_of = stacked numbered_name_of []

-- the type id that the innermost one of that name has, if there is one
abbrev pub number_named : Name → List NumberedName → Option (Option TyNo)
number_named x [] = None
number_named x (t ∷ ts) = if bytes_eq t.name x then Some t.number else number_named x ts

-- the abbreviation that a type name is over the types of a table
abbrev pub abbreviation_over : List Typ → NumberedName → Abbreviation
abbreviation_over ts t = stands_for t.name (written_over ts t.number)

-- the abbreviations that type names are over the types of a table
abbrev pub abbreviations_over : List Typ → List NumberedName → List Abbreviation
abbreviations_over ts names = map (abbreviation_over ts) names

-- each of them that stands for a type has the id of one of the table
abbrev pub TypeIdsStand : List Typ → List NumberedName → Type 0
TypeIdsStand ts [] = Unit {0}
TypeIdsStand ts (t ∷ more) = StandsIfAny ts t.number × TypeIdsStand ts more
