-- The types of the commands of a text, line by line.
use Rattle.std.specs.Prelude.{◌≡◌, ℕ, List, [], ◌∷◌, ◌++◌, flat_map, Option, Some, None, codes}
use Rattle.lam_rules.specs.Texts.{Text}
use Rattle.lam_rules.specs.declared.rules.Dialect.{Dialect}
use Rattle.lam_query.specs.CommandTypes.{CommandType, of_name, of_type_name, of_term, AreCommandTypesOf}

-- a line with a name, a sign and the text of a type; empty if there is no type
abbrev pub typed_line : (name sign : Text) → Option Text → Text
typed_line name sign None = []
typed_line name sign (Some type) = name ++ sign ++ type ++ 10 ∷ []

-- the line of a command with this type
abbrev pub line_of_type : CommandType → Text
line_of_type (of_name x type) = typed_line x (codes " : ") type
line_of_type (of_type_name x type) = typed_line x (codes " :: ") type
line_of_type (of_term type) = typed_line [] [] type

-- the lines of commands, one after another; empty if the types are unknown
abbrev pub type_lines : Option (List CommandType) → Text
type_lines None = []
type_lines (Some shown) = flat_map line_of_type shown

-- the lines of the commands of a text
pub record AreTypes (text : List ℕ) (lines : Text) (d : Dialect) : Type 0 where
  pub shown : Option (List CommandType)
  pub are_types : AreCommandTypesOf text shown d
  pub are_lines : lines ≡ type_lines shown
