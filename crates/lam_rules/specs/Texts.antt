-- The two texts of a type: one with the fields in their own order, one with sorted labels.
use Rattle.std.specs.Prelude.{ℕ, List, [], ◌++◌, codes, Bool, if◌then◌else◌}
use Rattle.std.specs.Ordering.{nat_cmp, is_le}
use Rattle.std.specs.Cmp.Lexicographic.{slice_cmp}
use Rattle.lam_rules.specs.Types.{Label, Typ, bool, nat, unit, top, arrow, record_of, Fields, no_fields, field}

-- a text, as its bytes
abbrev pub Text : Type 0
Text = List ℕ

-- the text of a type to the left of an arrow, given the type and its text: an arrow is parenthesized
abbrev pub left_of_arrow : Typ → Text → Text
left_of_arrow bool text = text
left_of_arrow nat text = text
left_of_arrow unit text = text
left_of_arrow top text = text
left_of_arrow (arrow s t) text = codes "(" ++ text ++ codes ")"
left_of_arrow (record_of fs) text = text

-- the comma and space before the remaining fields, if there are any
abbrev pub separator_before : Fields → Text
separator_before no_fields = []
separator_before (field l t rest) = codes ", "

-- the text with the fields in their own order, such as `{b:Bool, a:(Nat->Nat)->Top}`
abbrev mutual
  pub plain_text : Typ → Text
  plain_text bool = codes "Bool"
  plain_text nat = codes "Nat"
  plain_text unit = codes "Unit"
  plain_text top = codes "Top"
  plain_text (arrow s t) = left_of_arrow s (plain_text s) ++ codes "->" ++ plain_text t
  plain_text (record_of fs) = codes "{" ++ plain_fields fs ++ codes "}"

  pub plain_fields : Fields → Text
  plain_fields no_fields = []
  plain_fields (field l t rest) = l ++ codes ":" ++ plain_text t ++ separator_before rest ++ plain_fields rest

-- the first label is less than or equal to the second in byte order
abbrev pub is_not_after : Label → Label → Bool
is_not_after k l = is_le (slice_cmp nat_cmp k l)

-- insert a field before the first one whose label is not less than its own
abbrev pub placed : Label → Typ → Fields → Fields
placed l t no_fields = field l t no_fields
placed l t (field k u rest) = if is_not_after l k then field l t (field k u rest) else field k u (placed l t rest)

-- the sorted form of a type: the labels of each record ascend, and fields with equal labels keep their order
abbrev mutual
  pub sorted : Typ → Typ
  sorted bool = bool
  sorted nat = nat
  sorted unit = unit
  sorted top = top
  sorted (arrow s t) = arrow (sorted s) (sorted t)
  sorted (record_of fs) = record_of (sorted_fields fs)

  pub sorted_fields : Fields → Fields
  sorted_fields no_fields = no_fields
  sorted_fields (field l t rest) = placed l (sorted t) (sorted_fields rest)

-- the text with the labels of each record ascending, such as `{a:Nat, b:Bool}`
abbrev pub text : Typ → Text
text t = plain_text (sorted t)
