-- What written types stand for, and their diagnostics.
use Rattle.std.specs.Prelude.{ℕ, ◌+◌, List, [], ◌∷◌, ◌++◌, Bool, true, false, ◌||◌, Option, Some, None, if◌then◌else◌, min, ltb}
use Rattle.std.specs.Option.{option_map}
use Rattle.std.specs.Str.{bytes_eq}
use Rattle.lam_rules.specs.Types as rules
use Rattle.lam_rules.specs.Types.{Typ, Fields, Label, nodes, nodes_in}
use Rattle.lam_syntax.specs.Trees.{Word, word, TypeTree, type_tree, TypeNode, bool, nat, unit, top, named, arrow, record_type, TypeFields, no_type_fields, type_field, joined_types}
use Rattle.lam_scope.specs.declared.type_fault.TypeFault.{TypeFault}
use Rattle.lam_scope.specs.declared.type_fault.TypeFault.TheVariants.{UnboundTypeName, RepeatedLabel}
use Rattle.lam_scope.specs.Names.{Name}

-- an abbreviation: a type name and what it stands for, or none if its written type is faulty
pub data Abbreviation : Type 0 where
  stands_for : Name → Option Typ → Abbreviation

-- what a type name stands for: the innermost abbreviation of that name
abbrev pub meaning : Name → List Abbreviation → Option Typ
meaning x [] = None
meaning x (stands_for y t ∷ bs) = if bytes_eq y x then t else meaning x bs

-- whether an abbreviation binds the type name
abbrev pub is_bound : Name → List Abbreviation → Bool
is_bound x [] = false
is_bound x (stands_for y t ∷ bs) = if bytes_eq y x then true else is_bound x bs

-- whether one of the fields has the label
abbrev pub has_label : Label → TypeFields → Bool
has_label l no_type_fields = false
has_label l (type_field (word k s) t rest) = bytes_eq k l || has_label l rest

-- the combination of two values, if both are there
abbrev pub both : {A B C : Type 0} → (A → B → C) → Option A → Option B → Option C
both f None b = None
both f (Some a) b = option_map (f a) b

-- The type that a written type stands for, with fields in the order written. There is none if it uses a type name that is unbound or stands for no type, or repeats a
-- label in a record type.
abbrev mutual
  pub expansion : List Abbreviation → TypeTree → Option Typ
  expansion bs (type_tree s n) = expansion_of_node bs n

  -- the type that the form of a written type stands for
  pub expansion_of_node : List Abbreviation → TypeNode → Option Typ
  expansion_of_node bs bool = Some rules.bool
  expansion_of_node bs nat = Some rules.nat
  expansion_of_node bs unit = Some rules.unit
  expansion_of_node bs top = Some rules.top
  expansion_of_node bs (named (word x s)) = meaning x bs
  expansion_of_node bs (arrow a b) = both rules.arrow (expansion bs a) (expansion bs b)
  expansion_of_node bs (record_type fs) = option_map rules.record_of (expansion_of_fields bs fs)

  -- the fields that written ones stand for; none if a label is repeated or a type stands for none
  pub expansion_of_fields : List Abbreviation → TypeFields → Option Fields
  expansion_of_fields bs no_type_fields = Some rules.no_fields
  expansion_of_fields bs (type_field (word l s) t rest) =
      if has_label l rest then None else both (rules.field l) (expansion bs t) (expansion_of_fields bs rest)

-- the diagnostic of a label that an earlier field has too
abbrev pub label_fault : Word → (earlier : TypeFields) → List TypeFault
label_fault (word l s) earlier = if has_label l earlier then RepeatedLabel s ∷ [] else []

-- The diagnostics of a written type, in text order. The use of an abbreviation is not one, even if the abbreviation's own written type is faulty.
abbrev mutual
  pub type_faults : List Abbreviation → TypeTree → List TypeFault
  type_faults bs (type_tree s n) = node_faults bs n

  -- those in the form of a written type
  pub node_faults : List Abbreviation → TypeNode → List TypeFault
  node_faults bs (named (word x s)) = if is_bound x bs then [] else UnboundTypeName s ∷ []
  node_faults bs (arrow a b) = type_faults bs a ++ type_faults bs b
  node_faults bs (record_type fs) = field_faults bs no_type_fields fs
  node_faults bs n = []

  -- those in the fields of a record type that come after these earlier ones
  pub field_faults : List Abbreviation → (earlier : TypeFields) → TypeFields → List TypeFault
  field_faults bs earlier no_type_fields = []
  field_faults bs earlier (type_field l t rest) =
      label_fault l earlier ++ type_faults bs t ++ field_faults bs (joined_types earlier (type_field l t no_type_fields)) rest

-- the size limit in nodes, for the expansion of a written type and for the type of a subterm
abbrev pub node_limit : ℕ
node_limit = 4096

-- whether an expansion is over the size limit
abbrev pub is_over_limit : Option Typ → Bool
is_over_limit None = false
is_over_limit (Some t) = ltb node_limit (nodes t)

-- the number of nodes of an expansion, counting no further than one over the limit
abbrev pub capped_nodes : Option Typ → Option ℕ
capped_nodes = option_map (λ t. min (nodes t) (node_limit + 1))

-- the number of nodes of the types of fields, counting no further than one over the limit
abbrev pub capped_nodes_in : Option Fields → Option ℕ
capped_nodes_in = option_map (λ fs. min (nodes_in fs) (node_limit + 1))

-- whether a number of nodes is over the limit
abbrev pub is_capped : Option ℕ → Bool
is_capped None = false
is_capped (Some n) = ltb node_limit n
