-- Fields of one list picked by the labels of another.
use Rattle.std.specs.Prelude.{if◌then◌else◌}
use Rattle.std.specs.Str.{bytes_eq}
use Rattle.lam_rules.specs.Types.{Label, Typ, top, Fields, no_fields, field, Has}

-- each label of the second list is also in the first
abbrev pub HasLabelsOf : Fields → Fields → Type 0
HasLabelsOf fs gs = (l : Label) (t : Typ) → Has l t gs → (s : Typ) × Has l s fs

-- the type of the first field with this label, or Top if there is none
abbrev pub type_under : Label → Fields → Typ
type_under l no_fields = top
type_under l (field k t rest) = if bytes_eq k l then t else type_under l rest

-- the labels of the second list, in order, each with the type that it has in the first
abbrev pub picked : Fields → Fields → Fields
picked fs no_fields = no_fields
picked fs (field l t rest) = field l (type_under l fs) (picked fs rest)
