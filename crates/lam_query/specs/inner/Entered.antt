-- Environments made by entering names one by one, each with the result of a lookup.
use Rattle.std.specs.Prelude.{List, [], ◌∷◌, Option, Some, None, if◌then◌else◌}
use Rattle.std.specs.Str.{bytes_eq}
use Rattle.lam_rules.specs.Types.{Typ}
use Rattle.lam_rules.specs.Typing.{Context}
use Rattle.lam_syntax.specs.Trees.{word, CommandTree, definition, declaration, abbreviation}
use Rattle.lam_scope.specs.Names.{Name}
use Rattle.lam_scope.specs.Expansions.{Abbreviation, stands_for, expansion}

-- The meaning of each name: nothing if it is unbound, otherwise its context entry, which is a type or none.
abbrev pub Lookup : Type 0
Lookup = Name → Option (Option Typ)

-- what a type name stands for, by the innermost abbreviation of that name; nothing if it is unbound
abbrev pub type_named : Name → List Abbreviation → Option (Option Typ)
type_named x [] = None
type_named x (stands_for y t ∷ bs) = if bytes_eq y x then Some t else type_named x bs

-- a name before others that are entered, if it was found
abbrev pub entered_first : Name → Option (Option Typ) → List (Name × Option Typ) → List (Name × Option Typ)
entered_first x None rest = rest
entered_first x (Some entry) rest = (x, entry) ∷ rest

-- those of the names that are found, each with its entry, in the order of the names
abbrev pub entered : Lookup → List Name → List (Name × Option Typ)
entered look [] = []
entered look (x ∷ xs) = entered_first x (look x) (entered look xs)

-- binders with these names pushed one by one, so that the last of them is innermost
abbrev pub names_onto : List (Option Name) → List (Name × Option Typ) → List (Option Name)
names_onto xs [] = xs
names_onto xs (p ∷ ps) = names_onto (Some p.0 ∷ xs) ps

-- a context with their entries pushed
abbrev pub entries_onto : Context → List (Name × Option Typ) → Context
entries_onto g [] = g
entries_onto g (p ∷ ps) = entries_onto (p.1 ∷ g) ps

-- abbreviations with these type names pushed, each with what it stands for
abbrev pub abbreviations_onto : List Abbreviation → List (Name × Option Typ) → List Abbreviation
abbreviations_onto bs [] = bs
abbreviations_onto bs (p ∷ ps) = abbreviations_onto (stands_for p.0 p.1 ∷ bs) ps

-- the name that a command binds for the commands after it
abbrev pub name_bound : CommandTree → Option Name
name_bound (definition (word x s) t) = Some x
name_bound (declaration (word x s) u) = Some x
name_bound c = None

-- the type name that it binds for them
abbrev pub type_name_bound : CommandTree → Option Name
type_name_bound (abbreviation (word x s) u) = Some x
type_name_bound c = None

-- and what that stands for, where the command sees these abbreviations
abbrev pub type_bound : List Abbreviation → CommandTree → Option Typ
type_bound bs (abbreviation w u) = expansion bs u
type_bound bs c = None
