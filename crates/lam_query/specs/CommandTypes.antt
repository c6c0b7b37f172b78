-- The types that each command of a text shows.
use Rattle.std.specs.Prelude.{◌≡◌, ℕ, List, [], ◌∷◌, Option, Some, None, option_map}
use Rattle.lam_token.specs.declared.span.Span.{Span}
use Rattle.lam_rules.specs.Types.{Typ}
use Rattle.lam_rules.specs.Texts.{Text, text}
use Rattle.lam_rules.specs.declared.rules.Dialect.{Dialect}
use Rattle.lam_syntax.specs.Trees.{word, CommandTree, definition, declaration, abbreviation, evaluation}
use Rattle.lam_scope.specs.Names.{Name}
use Rattle.lam_scope.specs.Expansions.{Abbreviation, expansion}
use Rattle.lam_scope.specs.Nameless.{nameless, abbreviations_after, names_after}
use Rattle.lam_scope.specs.Places.{Scope}
use Rattle.lam_scope.specs.PlacedTerms.{scope_after}
use Rattle.lam_typing.specs.LeastTypes.{IsLeastAt}
use Rattle.lam_query.specs.Commands.{AreCommandsOfText}
use Rattle.lam_query.specs.Sizes.{IsSizeFault, IsSmall}

-- a name, a type name, or neither, with a type as text or none
pub data CommandType : Type 0 where
  of_name : (name : Name) → (type : Option Text) → CommandType
  of_type_name : (name : Name) → (type : Option Text) → CommandType
  of_term : (type : Option Text) → CommandType

-- What a command shows, given the abbreviations and binders in scope: the name that it binds with the least type of its term or with its written type; a type name with
-- what it stands for; or the least type of its term alone.
abbrev pub IsCommandType : List Abbreviation → List (Option Name) → Scope → CommandTree → CommandType → Dialect → Type 0
IsCommandType bs xs s (definition (word x r) t) shown d = (type : Option Typ) × IsLeastAt s (nameless bs xs t) type d × (shown ≡ of_name x (option_map text type))
IsCommandType bs xs s (declaration (word x r) u) shown d = shown ≡ of_name x (option_map text (expansion bs u))
IsCommandType bs xs s (abbreviation (word x r) u) shown d = shown ≡ of_type_name x (option_map text (expansion bs u))
IsCommandType bs xs s (evaluation t) shown d = (type : Option Typ) × IsLeastAt s (nameless bs xs t) type d × (shown ≡ of_term (option_map text type))

-- what commands show, given what is in scope at the first
abbrev pub AreCommandTypesFrom : List Abbreviation → List (Option Name) → Scope → List CommandTree → List CommandType → Dialect → Type 0
AreCommandTypesFrom bs xs s [] [] d = Unit {0}
AreCommandTypesFrom bs xs s (c ∷ cs) (shown ∷ others) d =
    IsCommandType bs xs s c shown d × AreCommandTypesFrom (abbreviations_after bs c) (names_after xs c) (scope_after bs xs s c) cs others d
AreCommandTypesFrom bs xs s [] (shown ∷ others) d = ⊥
AreCommandTypesFrom bs xs s (c ∷ cs) [] d = ⊥

-- what all commands show, or none if some type has more than 4,096 nodes
pub data AreCommandTypes : List CommandTree → Option (List CommandType) → Dialect → Type 0 where
  small : {commands : List CommandTree} {shown : List CommandType} {d : Dialect}
      → IsSmall commands d → AreCommandTypesFrom [] [] [] commands shown d → AreCommandTypes commands (Some shown) d
  too_large : {commands : List CommandTree} {d : Dialect} (s : Span) → IsSizeFault commands s d → AreCommandTypes commands None d

-- what the commands of a text show
pub record AreCommandTypesOf (text : List ℕ) (shown : Option (List CommandType)) (d : Dialect) : Type 0 where
  pub commands : List CommandTree
  pub are_commands : AreCommandsOfText text commands
  pub are_types : AreCommandTypes commands shown d
