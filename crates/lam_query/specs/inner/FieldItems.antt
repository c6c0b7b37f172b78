-- Completion items for the fields of a type. For private functions only.
use Rattle.std.specs.Prelude.{List, [], ◌∷◌, true, Option, Some, None}
use Rattle.lam_rules.specs.Types.{Label, Typ, record_of, Fields, no_fields, field}
use Rattle.lam_rules.specs.Texts.{text, sorted}
use Rattle.lam_query.specs.Completions.{Item}

-- the item for a field: its label, and its type as text
abbrev pub field_item : Label → Typ → Item
field_item l t = record { label = l; detail = Some (text t); is_field = true }

-- an item for each field, in the order of the fields
abbrev pub field_items : Fields → List Item
field_items no_fields = []
field_items (field l t rest) = field_item l t ∷ field_items rest

-- the items of a record type; other types have none
abbrev pub items_in : Typ → List Item
items_in (record_of fs) = field_items fs
items_in t = []

-- the items of the sorted form of a type, if there is one
abbrev pub items_found : Option Typ → List Item
items_found None = []
items_found (Some t) = items_in (sorted t)
