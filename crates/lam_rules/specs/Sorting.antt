-- What sorting the labels of a type means, independent of how it is done.
use Rattle.std.specs.Prelude.{◌≡◌, if◌then◌else◌, List, [], ◌∷◌, IsTrue, String, string_bytes}
use Rattle.std.specs.declared.alloc.Global.{Global}
use Rattle.std.specs.Str.{bytes_eq}
use Rattle.lam_rules.specs.Types.{Label, Typ, bool, nat, unit, top, arrow, record_of, Fields, no_fields, field}
use Rattle.lam_rules.specs.Texts.{is_not_after}

-- the label is less than or equal to each label of the fields in byte order
abbrev pub ComesFirst : Label → Fields → Type 0
ComesFirst l no_fields = Unit {0}
ComesFirst l (field k t rest) = IsTrue (is_not_after l k) × ComesFirst l rest

-- the labels ascend
abbrev pub IsAscending : Fields → Type 0
IsAscending no_fields = Unit {0}
IsAscending (field l t rest) = ComesFirst l rest × IsAscending rest

-- the types of the fields with this label, in order
abbrev pub types_under : Label → Fields → List Typ
types_under l no_fields = []
types_under l (field k t rest) = if bytes_eq l k then t ∷ types_under l rest else types_under l rest

-- the second list is the first one sorted: its labels ascend, and for each label it has the same types in the same order
pub record IsSorting (fs gs : Fields) : Type 0 where
  pub ascending : IsAscending gs
  pub same_fields : (l : Label) → types_under l gs ≡ types_under l fs

-- labeled values as fields, given the type of each value
abbrev pub fields_by : {X : Type 0} → (X → Typ) → List (String Global × X) → Fields
fields_by typ [] = no_fields
fields_by typ (f ∷ fs) = field (string_bytes f.0) (typ f.1) (fields_by typ fs)

-- the second type is the first with the fields of each record sorted, at every depth
abbrev mutual
  pub IsSortedForm : Typ → Typ → Type 0
  IsSortedForm bool bool = Unit {0}
  IsSortedForm nat nat = Unit {0}
  IsSortedForm unit unit = Unit {0}
  IsSortedForm top top = Unit {0}
  IsSortedForm (arrow s t) (arrow u v) = IsSortedForm s u × IsSortedForm t v
  IsSortedForm (record_of fs) (record_of gs) = (inside : Fields) × AreSortedForms fs inside × IsSorting inside gs
  IsSortedForm _ _ = ⊥

  -- the same labels in the same order, and each type sorted
  pub AreSortedForms : Fields → Fields → Type 0
  AreSortedForms no_fields no_fields = Unit {0}
  AreSortedForms (field l t fs) (field k u gs) = (k ≡ l) × IsSortedForm t u × AreSortedForms fs gs
  AreSortedForms _ _ = ⊥
