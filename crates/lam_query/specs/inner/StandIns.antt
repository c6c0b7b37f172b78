-- Declarations that stand in for the commands before one. For private functions only.
use Rattle.std.specs.Prelude.{◌≡◌, List, [], ◌∷◌, ◌++◌, length, map, codes, Option, Some, None}
use Rattle.lam_token.specs.declared.span.Span.{Span}
use Rattle.lam_rules.specs.Types as type
use Rattle.lam_rules.specs.Types.{Typ, Fields}
use Rattle.lam_syntax.specs.Trees.{word, TypeTree, type_tree, TypeNode, bool, nat, unit, top, arrow, record_type, TypeFields, no_type_fields, type_field, CommandTree, declaration, abbreviation}
use Rattle.lam_syntax.specs.Views.{command_of}
use Rattle.lam_scope.specs.FreeNames.{each_once, free_in_command, free_type_names_in_command}
use Rattle.lam_scope.specs.Names.{Name}
use Rattle.lam_query.specs.declared.stand_ins.Alone.{Alone}
use Rattle.lam_query.specs.inner.Entered.{entered}
use Rattle.lam_query.specs.inner.PieceRows.{Sight}

-- the span of what is in no text
abbrev pub nowhere : Span
nowhere = record { start = 0; end = 0 }

-- the form of a type as it would be written
abbrev mutual
  pub written_node : Typ → TypeNode
  written_node type.bool = bool
  written_node type.nat = nat
  written_node type.unit = unit
  written_node type.top = top
  written_node (type.arrow a b) = arrow (type_tree nowhere (written_node a)) (type_tree nowhere (written_node b))
  written_node (type.record_of fs) = record_type (written_fields fs)

  -- the fields of a record type
  pub written_fields : Fields → TypeFields
  written_fields type.no_fields = no_type_fields
  written_fields (type.field l t fs) = type_field (word l nowhere) (type_tree nowhere (written_node t)) (written_fields fs)

-- a type as it would be written
abbrev pub written_type : Typ → TypeTree
written_type t = type_tree nowhere (written_node t)

-- a written type that stands for this entry; for none it is an invalid one, which repeats a label
abbrev pub written_entry : Option Typ → TypeTree
written_entry (Some t) = written_type t
written_entry None =
    type_tree nowhere (record_type (type_field (word (codes "a") nowhere) (written_type type.unit) (type_field (word (codes "a") nowhere) (written_type type.unit) no_type_fields)))

-- the declaration of a name with this entry
abbrev pub declared : Name × Option Typ → CommandTree
declared p = declaration (word p.0 nowhere) (written_entry p.1)

-- the abbreviation that gives a type name this meaning
abbrev pub abbreviated : Name × Option Typ → CommandTree
abbreviated p = abbreviation (word p.0 nowhere) (written_entry p.1)

-- a declaration of each free name of the command that is bound, followed by an abbreviation of each such type name
abbrev pub stand_ins : Sight → CommandTree → List CommandTree
stand_ins s c = map declared (entered s.names (each_once (free_in_command c))) ++ map abbreviated (entered s.types (each_once (free_type_names_in_command c)))

-- exactly these stand-ins
pub record AreStandIns (s : Sight) (c : CommandTree) (a : Alone) : Type 0 where
  pub commands : map command_of a.commands.items ≡ stand_ins s c
  pub names : a.names ≡ length (entered s.names (each_once (free_in_command c)))

-- the command comes last, after its stand-ins, and this many of them declare names
pub record IsAlone (s : Sight) (c : CommandTree) (a : Alone) : Type 0 where
  pub commands : map command_of a.commands.items ≡ stand_ins s c ++ c ∷ []
  pub names : a.names ≡ length (entered s.names (each_once (free_in_command c)))
