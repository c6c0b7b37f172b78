-- Type ids (`TyNo`). A type table is seen as the list of its types, from id 0 on.
use Rattle.std.specs.Prelude.{◌≡◌, ℕ, ◌<◌, List, [], ◌∷◌, ◌++◌, length, String, string_bytes, Option, option_map}
use Rattle.std.specs.List.{slice_index_or, find}
use Rattle.std.specs.Str.{bytes_eq}
use Rattle.std.specs.declared.alloc.Global.{Global}
use denote.Ref.{Bor}
use Rattle.lam_rules.specs.Types.{Label, Typ, bool, nat, unit, top, arrow, record_of, Fields, no_fields, field}
use Rattle.lam_rules.specs.declared.numbers.TyNo.{TyNo}
use Rattle.lam_rules.specs.declared.numbers.Shape.{Shape}

-- the type with this index as its id
abbrev pub type_at : List Typ → ℕ → Typ
type_at ts n = slice_index_or ts n top

-- the type with this id
abbrev pub type_of : List Typ → TyNo → Typ
type_of ts number = type_at ts number.index

-- the id is in the table
abbrev pub Stands : List Typ → TyNo → Type 0
Stands ts number = number.index < length ts

-- the id is in the table, and is that of this type
pub record IsNumberOf (ts : List Typ) (number : TyNo) (t : Typ) : Type 0 where
  pub stands : number.index < length ts
  pub type : type_of ts number ≡ t

-- the table has only grown: ids keep their types
pub record Keeps (old now : List Typ) : Type 0 where
  pub more : List Typ
  pub is : now ≡ old ++ more

-- the fields of labeled ids
abbrev pub fields_over : List Typ → List (String Global × TyNo) → Fields
fields_over ts [] = no_fields
fields_over ts (f ∷ fs) = field (string_bytes f.0) (type_of ts f.1) (fields_over ts fs)

-- the type with this shape, where its ids are those of the table
abbrev pub shaped : List Typ → Shape → Typ
shaped ts Shape.Bool = bool
shaped ts Shape.Nat = nat
shaped ts Shape.Unit = unit
shaped ts Shape.Top = top
shaped ts (Shape.Arrow parameter outcome) = arrow (type_of ts parameter) (type_of ts outcome)
shaped ts (Shape.Record fields) = record_of (fields_over ts fields.items)

-- the ids of these fields are less than this index
abbrev pub AreEarlier : ℕ → List (String Global × TyNo) → Type 0
AreEarlier n [] = Unit {0}
AreEarlier n (f ∷ fs) = (f.1.index < n) × AreEarlier n fs

-- the ids in a shape are less than this index
abbrev pub IsOver : ℕ → Shape → Type 0
IsOver n Shape.Bool = Unit {0}
IsOver n Shape.Nat = Unit {0}
IsOver n Shape.Unit = Unit {0}
IsOver n Shape.Top = Unit {0}
IsOver n (Shape.Arrow parameter outcome) = (parameter.index < n) × (outcome.index < n)
IsOver n (Shape.Record fields) = AreEarlier n fields.items

-- no field has the label
abbrev pub IsNotAmong : Label → List (String Global × TyNo) → Type 0
IsNotAmong l [] = Unit {0}
IsNotAmong l (f ∷ fs) = (l ≡ string_bytes f.0 → ⊥) × IsNotAmong l fs

-- the labels of the fields are distinct
abbrev pub HaveDistinctLabels : List (String Global × TyNo) → Type 0
HaveDistinctLabels [] = Unit {0}
HaveDistinctLabels (f ∷ fs) = IsNotAmong (string_bytes f.0) fs × HaveDistinctLabels fs

-- the labels of the shape are distinct, if it is a record type
abbrev pub HasDistinctLabels : Shape → Type 0
HasDistinctLabels (Shape.Record fields) = HaveDistinctLabels fields.items
HasDistinctLabels _ = Unit {0}

-- the value of the first field with this label
abbrev pub first_under : {X : Type 0} → Label → List (String Global × X) → Option X
first_under l fs = option_map (λ f. f.1) (find (λ f. bytes_eq (string_bytes f.0) l) fs)

-- Labeled ids that a caller passes, with borrowed labels.

-- the fields of passed labeled ids
abbrev pub fields_given : List Typ → List (Bor (List ℕ) × TyNo) → Fields
fields_given ts [] = no_fields
fields_given ts (f ∷ fs) = field f.0.now (type_of ts f.1) (fields_given ts fs)

-- each id is in the table
abbrev pub AllStand : List Typ → List (Bor (List ℕ) × TyNo) → Type 0
AllStand ts [] = Unit {0}
AllStand ts (f ∷ fs) = Stands ts f.1 × AllStand ts fs

-- no passed field has the label
abbrev pub IsNotGiven : Label → List (Bor (List ℕ) × TyNo) → Type 0
IsNotGiven l [] = Unit {0}
IsNotGiven l (f ∷ fs) = (l ≡ f.0.now → ⊥) × IsNotGiven l fs

-- the labels of the passed fields are distinct
abbrev pub AreGivenApart : List (Bor (List ℕ) × TyNo) → Type 0
AreGivenApart [] = Unit {0}
AreGivenApart (f ∷ fs) = IsNotGiven f.0.now fs × AreGivenApart fs
