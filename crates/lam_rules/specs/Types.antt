-- Types as plain trees: what a `Ty` represents, without boxes, capacities and addresses.
use Rattle.std.specs.Prelude.{◌≡◌, ◌≢◌, ◌⊎◌, ℕ, ◌+◌, List}

-- a label, as the bytes of its name
abbrev pub Label : Type 0
Label = List ℕ

-- The types of TAPL figures 8-1, 8-2, 9-1, 11-2, 11-7 and 15-1. The fields of a record type are ordered.
mutual
  pub data Typ : Type 0 where
    bool : Typ
    nat : Typ
    unit : Typ
    top : Typ
    arrow : (parameter outcome : Typ) → Typ
    record_of : (fields : Fields) → Typ

  pub data Fields : Type 0 where
    no_fields : Fields
    field : (label : Label) (type : Typ) (rest : Fields) → Fields

-- no field has this label
abbrev pub IsAbsent : Label → Fields → Type 0
IsAbsent l no_fields = Unit {0}
IsAbsent l (field k t rest) = (l ≢ k) × IsAbsent l rest

-- the labels of each record type are distinct, at every depth
abbrev mutual
  pub IsWellFormed : Typ → Type 0
  IsWellFormed bool = Unit {0}
  IsWellFormed nat = Unit {0}
  IsWellFormed unit = Unit {0}
  IsWellFormed top = Unit {0}
  IsWellFormed (arrow s t) = IsWellFormed s × IsWellFormed t
  IsWellFormed (record_of fs) = AreWellFormed fs

  pub AreWellFormed : Fields → Type 0
  AreWellFormed no_fields = Unit {0}
  AreWellFormed (field l t rest) = IsWellFormed t × IsAbsent l rest × AreWellFormed rest

-- the number of nodes of a type; fields and labels are not counted, but the types of fields are
abbrev mutual
  pub nodes : Typ → ℕ
  nodes bool = 1
  nodes nat = 1
  nodes unit = 1
  nodes top = 1
  nodes (arrow s t) = 1 + nodes s + nodes t
  nodes (record_of fs) = 1 + nodes_in fs

  pub nodes_in : Fields → ℕ
  nodes_in no_fields = 0
  nodes_in (field l t rest) = nodes t + nodes_in rest

-- the fields of the first list, followed by those of the second
abbrev pub joined : Fields → Fields → Fields
joined no_fields gs = gs
joined (field l t rest) gs = field l t (joined rest gs)

-- some field has this label and this type
abbrev pub Has : Label → Typ → Fields → Type 0
Has l t no_fields = ⊥
Has l t (field k u rest) = ((k ≡ l) × (u ≡ t)) ⊎ Has l t rest

-- each field of the first list is also in the second
abbrev pub Includes : Fields → Fields → Type 0
Includes no_fields gs = Unit {0}
Includes (field l t rest) gs = Has l t gs × Includes rest gs
