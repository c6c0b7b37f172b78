-- Optional type ids found for subterms and binders.
use Rattle.std.specs.Prelude.{List, [], ◌∷◌, map, Option}
use Rattle.std.specs.Option.{option_map}
use Rattle.lam_rules.specs.Types.{Typ}
use Rattle.lam_rules.specs.Typing.{Context}
use Rattle.lam_rules.specs.Numbers.{type_of}
use Rattle.lam_rules.specs.declared.numbers.TyNo.{TyNo}
use Rattle.lam_scope.specs.Numbered.{StandsIfAny}

-- the type with this id, if there is one
abbrev pub answer : List Typ → Option TyNo → Option Typ
answer ts o = option_map (type_of ts) o

-- the types with these ids, or none, one by one
abbrev pub answers : List Typ → List (Option TyNo) → List (Option Typ)
answers ts os = map (answer ts) os

-- the type id, if there is one, is in the table
abbrev pub StandsWhereFound : List Typ → Option TyNo → Type 0
StandsWhereFound = StandsIfAny

-- each type id among them is in the table
abbrev pub AllStandIn : List Typ → List (Option TyNo) → Type 0
AllStandIn ts [] = Unit {0}
AllStandIn ts (o ∷ os) = StandsWhereFound ts o × AllStandIn ts os

-- a context with entries pushed onto it one by one, so that the last of them is the innermost
abbrev pub under_entries : List Typ → Context → List (Option TyNo) → Context
under_entries ts g [] = g
under_entries ts g (o ∷ os) = under_entries ts (answer ts o ∷ g) os

-- the context of just these entries, given outermost first
abbrev pub context_under : List Typ → List (Option TyNo) → Context
context_under ts os = under_entries ts [] os
