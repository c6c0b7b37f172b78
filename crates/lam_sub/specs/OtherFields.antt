-- The fields of one list whose labels another list does not have.
use Rattle.std.specs.Prelude.{Bool, true, false, if◌then◌else◌}
use Rattle.std.specs.Str.{bytes_eq}
use Rattle.lam_rules.specs.Types.{Label, Fields, no_fields, field}

-- whether a field has this label
abbrev pub is_label_of : Label → Fields → Bool
is_label_of l no_fields = false
is_label_of l (field k t rest) = if bytes_eq k l then true else is_label_of l rest

-- the fields of the first list whose labels the second does not have, in order
abbrev pub other_fields : Fields → Fields → Fields
other_fields no_fields gs = no_fields
other_fields (field l t rest) gs = if is_label_of l gs then other_fields rest gs else field l t (other_fields rest gs)
