-- The type names in written types, and the abbreviation that each stands for: the last one of that name in earlier commands.
use Rattle.std.specs.Prelude.{◌≡◌, ◌≢◌, List, [], ◌∷◌, ◌++◌, Option, None, Contains, fold, flat_map}
use Rattle.std.specs.List.{AllByRecursion}
use Rattle.lam_token.specs.declared.span.Span.{Span}
use Rattle.lam_rules.specs.Types.{Typ}
use Rattle.lam_syntax.specs.Trees.{Word, word, TypeTree, type_tree, TypeNode, named, arrow, record_type, TypeFields, no_type_fields, type_field, CommandTree, abbreviation}
use Rattle.lam_scope.specs.Names.{Name}
use Rattle.lam_scope.specs.Expansions.{Abbreviation, expansion}
use Rattle.lam_scope.specs.Nameless.{written_in_command, abbreviations_after, names_after}

-- the type names that a written type uses, with their tokens, in text order
abbrev mutual
  pub type_names : TypeTree → List Word
  type_names (type_tree s n) = type_names_in n

  -- those in the form of a written type
  pub type_names_in : TypeNode → List Word
  type_names_in (named w) = w ∷ []
  type_names_in (arrow a b) = type_names a ++ type_names b
  type_names_in (record_type fs) = type_names_in_fields fs
  type_names_in n = []

  -- those in the fields of a record type
  pub type_names_in_fields : TypeFields → List Word
  type_names_in_fields no_type_fields = []
  type_names_in_fields (type_field l t fs) = type_names t ++ type_names_in_fields fs

-- the type names that the written types of a command use
abbrev pub type_names_in_command : CommandTree → List Word
type_names_in_command c = flat_map type_names (written_in_command c)

-- A document uses a type name at this token, in the command just after these first ones.
pub record IsTypeNameIn (cs before : List CommandTree) (x : Name) (token : Span) : Type 0 where
  pub command : CommandTree
  pub after : List CommandTree
  pub document : cs ≡ before ++ command ∷ after
  pub is_used : Contains (type_names_in_command command) (word x token)

-- the abbreviations in scope after these commands, innermost first
abbrev pub abbreviations_seen_after : List CommandTree → List Abbreviation
abbreviations_seen_after cs = fold abbreviations_after [] cs

-- the binders of names in scope after these commands, innermost first
abbrev pub binders_seen_after : List CommandTree → List (Option Name)
binders_seen_after cs = fold names_after [] cs

-- what a type name at this token stands for after these commands, or none: the expansion of the written type that is just this name
abbrev pub meant_after : List CommandTree → Name → (token : Span) → Option Typ
meant_after cs x s = expansion (abbreviations_seen_after cs) (type_tree s (named (word x s)))

-- a command is not an abbreviation of this type name
abbrev pub IsNoAbbreviationOf : Name → CommandTree → Type 0
IsNoAbbreviationOf x (abbreviation (word y s) u) = y ≢ x
IsNoAbbreviationOf x c = Unit {0}

-- The last abbreviation of a type name in these commands has this token, and this is what the name stands for: the expansion of its written type with the abbreviations
-- before it.
pub record IsLastAbbreviation (cs : List CommandTree) (x : Name) (token : Span) (meant : Option Typ) : Type 0 where
  pub before : List CommandTree
  pub written : TypeTree
  pub after : List CommandTree
  pub commands : cs ≡ before ++ abbreviation (word x token) written ∷ after
  pub is_last : AllByRecursion (IsNoAbbreviationOf x) after
  pub is_meant : meant ≡ expansion (abbreviations_seen_after before) written

-- none of these commands is an abbreviation of the type name, and it stands for no type
pub record IsNotAbbreviated (cs : List CommandTree) (x : Name) (meant : Option Typ) : Type 0 where
  pub none : AllByRecursion (IsNoAbbreviationOf x) cs
  pub is_meant : meant ≡ None
